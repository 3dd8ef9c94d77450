-- What was done where a machine was run to its end on a store.
use Rattle.std.specs.Prelude.{◌≡◌, ◌⊎◌, ◌≤◌, List, [], ◌∷◌, ◌++◌}
use Rattle.std.specs.Prelude.{Bool, true, false, IsTrue, Result, Ok, Err}
use Rattle.std.specs.List.{All}
use Rattle.ice_base.specs.Ends.{Rose}
use Rattle.object_store.specs.declared.events.Event.{Event}
use Rattle.store_api.specs.declared.machines.Refusal.{Refusal}
use Rattle.store_api.specs.declared.machines.Refusal.TheVariants.{NoMemory}
use Rattle.store_api.specs.Callers.{Caller, View, HasAll, Fits}
use Rattle.store_api.specs.Journal.{Each, IsGood, IsPolite}
use Rattle.store_api.specs.Program.{Prog, Done, IsAsk, bind, Path}
use Rattle.store_api.specs.Program.{Keeps, Grows, is_fault, is_told_surely}

-- ---- programs that may be refused
-- a program that ends with an answer or a refusal
abbrev pub Program : Type 0 → Type 0
Program A = Prog (Result A Refusal)

abbrev pub on_answer : {A B : Type 0} → (A → Program B) → Result A Refusal → Program B
on_answer f (Ok a) = f a
on_answer f (Err refusal) = Done (Err refusal)

-- the `?` of programs: first p, and then what follows its answer; a refusal ends both
infixl 10 ◌>>=◌
abbrev pub ◌>>=◌ : {A B : Type 0} → Program A → (A → Program B) → Program B
p >>= f = bind p (on_answer f)

-- ---- runs
-- each operation to come is polite, whatever others do
abbrev pub StaysPolite : {A : Type 0} → Caller → Prog A → List Event → Type 0
StaysPolite by p journal = Keeps (λ known client op. IsPolite known op) by p journal

-- what follows from the last of these events is told surely
abbrev pub ends_surely : List Event → Bool
ends_surely [] = false
ends_surely (event ∷ []) = is_told_surely event.op event.reply
ends_surely (event ∷ next ∷ events) = ends_surely (next ∷ events)

-- Memory ran out when these events had been made, and this was left of the program. Where a put
-- over of a branch or an operation that failed came last, memory was wanting for the operation that
-- comes next.
pub record IsCutOff {A : Type 0} (p : Program A) (own : List Event)
    (result : Result A Refusal) : Type 0 where
  pub result_is : result ≡ Err NoMemory
  pub left : Program A
  pub path : Path p own left
  pub sure : IsTrue (ends_surely own) → IsAsk left

-- From old to new there were these events alone, all good.
pub record Adds (own old new : List Event) : Type 0 where
  pub is : new ≡ old ++ own
  pub good : Each IsGood old own

-- The program was run, with this result. These operations were made, each with a reply of its
-- kind, and they lead the program to its end or to where memory ran out. The caller stays;
-- the faults of the store never fall, and where one is told they rose. Where the store tells
-- the journal, it went on by good events, and the client's own among them are these; a client
-- that has every number was alone.
pub record Runs {A : Type 0} (old new : View) (p : Program A)
    (result : Result A Refusal) : Type 0 where
  pub same : new.caller ≡ old.caller
  pub faults : old.faults ≤ new.faults
  pub blames : (why : Refusal) → result ≡ Err why → is_fault why ≡ true → Rose old.faults new.faults
  pub own : List Event
  pub fits : All (λ event. Fits event.op event.reply) own
  pub ends : Path p own (Done result) ⊎ IsCutOff p own result
  pub grows : IsTrue old.caller.tells → Grows old.caller.number own old.seen new.seen
  pub alone : IsTrue old.caller.tells → HasAll old.caller → Adds own old.seen new.seen
