-- Programs of store operations: what a machine has still to do.
use Rattle.std.specs.Prelude.{◌≡◌, ◌⊎◌, ℕ, ◌≤◌, ◌==◌, List, [], ◌∷◌, ◌++◌}
use Rattle.std.specs.Prelude.{filter, Bool, true, false, ◌||◌, IsTrue, Result, Ok, Err}
use Rattle.ice_base.specs.Ends.{Rose}
use Rattle.object_store.specs.declared.events.Op.{Op}
use Rattle.object_store.specs.declared.keys.Key.{Key}
use Rattle.object_store.specs.declared.keys.Key.TheVariants.{Snapshot, Manifest, Txn, Chunk}
use Rattle.object_store.specs.declared.keys.Key.TheVariants.{Branch, Tag, Tombstone, Lease}
use Rattle.object_store.specs.declared.events.Op.TheVariants.{Get, PutNew, PutOver, Remove}
use Rattle.object_store.specs.declared.events.Op.TheVariants.{RemoveAt, List as ListPart}
use Rattle.object_store.specs.declared.events.Reply.{Reply}
use Rattle.object_store.specs.declared.events.Event.{Event}
use Rattle.store_api.specs.declared.machines.Next.{Next}
use Rattle.store_api.specs.declared.machines.Next.TheVariants.{Again, Ready}
use Rattle.store_api.specs.declared.machines.Refusal.{Refusal}
use Rattle.store_api.specs.declared.machines.Refusal.TheVariants as R
use Rattle.store_api.specs.Journal.{Each, IsGood, IsPolite}
use Rattle.store_api.specs.Callers.{Caller, View, Makes, Waits, Fits, has_failed}

-- what is still to be done: an answer, or an operation and what follows each reply
pub data Prog (A : Type 0) : Type 0 where
  Done : A → Prog A
  Ask : Op → (Reply → Prog A) → Prog A

-- first p, and then what follows its answer
abbrev pub bind : {A B : Type 0} → Prog A → (A → Prog B) → Prog B
bind (Done a) f = f a
bind (Ask op k) f = Ask op (λ reply. bind (k reply) f)

abbrev pub is_ask : {A : Type 0} → Prog A → Bool
is_ask (Done a) = false
is_ask (Ask op k) = true

abbrev pub IsAsk : {A : Type 0} → Prog A → Type 0
IsAsk (Done a) = ⊥
IsAsk (Ask op k) = Unit {0}

abbrev pub IsDone : {A : Type 0} → Prog A → Type 0
IsDone (Done a) = Unit {0}
IsDone (Ask op k) = ⊥

-- the operations of these events, with their replies, lead from one program to the other
unfoldable pub Path : {A : Type 0} → Prog A → List Event → Prog A → Type 0
Path p [] q = p ≡ q
Path (Done a) (event ∷ events) q = ⊥
Path (Ask op k) (event ∷ events) q = (event.op ≡ op) × Path (k event.reply) events q

-- the client's events
abbrev pub events_of : ℕ → List Event → List Event
events_of client journal = filter (λ event. event.client == client) journal

-- the operation that comes next is polite
abbrev pub NextIsPolite : {A : Type 0} → Prog A → List Event → Type 0
NextIsPolite (Done a) journal = Unit {0}
NextIsPolite (Ask op k) journal = IsPolite journal op

-- ---- two weakest preconditions
-- P, a fact on a journal, a client and its operation, holds of each operation that the
-- program comes to, whatever others do.
unfoldable pub Keeps : {A : Type 0} → (List Event → ℕ → Op → Type 0) → Caller
    → Prog A → List Event → Type 0
Keeps P by (Done a) journal = Unit {0}
Keeps P by (Ask op k) journal =
    P journal by.number op
    × ((reply : Reply) (new : List Event) → Makes by op reply journal new
    → Keeps P by (k reply) new)

-- Q, a fact on an answer and a journal, holds of whatever the program answers, whatever others do.
unfoldable pub Leads : {A : Type 0} → (A → List Event → Type 0) → Caller
    → Prog A → List Event → Type 0
Leads Q by (Done a) journal = Q a journal
Leads Q by (Ask op k) journal =
    (reply : Reply) (new : List Event) → Makes by op reply journal new → Leads Q by (k reply) new

-- ---- steps of machines
abbrev pub is_no_memory : Refusal → Bool
is_no_memory R.NoMemory = true
is_no_memory _ = false

-- a failed operation of the store, also where it may have been done; each refusal is named,
-- so that a new one is asked for
abbrev pub is_fault : Refusal → Bool
is_fault R.NoRef = false
is_fault (R.Edit fault) = false
is_fault (R.BadMeta fault) = false
is_fault R.ReadOnly = false
is_fault (R.Missing key) = false
is_fault (R.BadFile key bad) = false
is_fault R.TooDeep = false
is_fault R.StoreFault = true
is_fault (R.IdTaken key) = false
is_fault R.NoMemory = false
is_fault R.IdsSpent = false
is_fault R.BadKey = false
is_fault (R.LostRace old found) = false
is_fault R.NothingToCommit = false
is_fault (R.TooLarge kind) = false
is_fault (R.InDoubt snapshot) = true
is_fault (R.Left at conflicts) = false
is_fault (R.NotAncestor head) = false
is_fault (R.RefExists version) = false
is_fault R.NoSnapshot = false
is_fault R.TagDropped = false
is_fault R.MainKept = false
is_fault (R.Moved found) = false
is_fault (R.CutoffAhead now) = false
is_fault R.Unnamed = false
is_fault (R.BadProp fault) = false
is_fault (R.Unsound faults) = false
is_fault (R.Differs key) = false
is_fault R.TargetFault = false
is_fault (R.Region fault) = false

-- What a step answered and what it left to do, where the program had come
-- to next. Want of memory is free.
abbrev pub Lands : {T : Type 0} → Prog (Result T Refusal) → Prog (Result T Refusal)
    → Result (Next T) Refusal → Type 0
Lands next rest (Ok Again) = (next ≡ rest) × IsAsk rest
Lands next rest (Ok (Ready t)) = (next ≡ Done (Ok t)) × IsDone rest
Lands next rest (Err refusal) =
    IsDone rest × (is_no_memory refusal ≡ false → next ≡ Done (Err refusal))

-- a key of a branch; each kind is named, so that a new one is asked for
abbrev pub is_branch : Key → Bool
is_branch (Snapshot id) = false
is_branch (Manifest id) = false
is_branch (Txn id) = false
is_branch (Chunk id) = false
is_branch (Branch name) = true
is_branch (Tag name) = false
is_branch (Tombstone name) = false
is_branch (Lease id) = false

-- a put over of a branch, as a commit and a reset make it
abbrev pub moves_branch : Op → Bool
moves_branch (Get key) = false
moves_branch (PutNew key bytes why) = false
moves_branch (PutOver key bytes old why) = is_branch key
moves_branch (Remove key why) = false
moves_branch (RemoveAt key old why) = false
moves_branch (ListPart part) = false

-- What follows from a put over of a branch, and from an operation that failed, isn't lost for want
-- of memory.
abbrev pub is_told_surely : Op → Reply → Bool
is_told_surely op reply = moves_branch op || has_failed reply

-- an answer that isn't free, also where it tells a want of memory
abbrev pub IsSure : {T : Type 0} → Prog (Result T Refusal) → Result (Next T) Refusal → Type 0
IsSure next (Ok answer) = Unit {0}
IsSure next (Err refusal) = next ≡ Done (Err refusal)

-- A step with an operation: this caller's own event was made.
pub record Moves {T : Type 0} (old new : View) (p q : Prog (Result T Refusal))
    (result : Result (Next T) Refusal) : Type 0 where
  pub op : Op
  pub next : Reply → Prog (Result T Refusal)
  pub reply : Reply
  pub asks : p ≡ Ask op next
  pub fits : Fits op reply
  pub made : IsTrue old.caller.tells → Makes old.caller op reply old.seen new.seen
  pub lands : Lands (next reply) q result
  pub sure : is_told_surely op reply ≡ true → IsSure (next reply) result

-- a step for which the store had no memory
pub record Stops {T : Type 0} (old new : View) (q : Prog (Result T Refusal))
    (result : Result (Next T) Refusal) : Type 0 where
  pub result_is : result ≡ Err R.NoMemory
  pub waits : IsTrue old.caller.tells → Waits old.caller old.seen new.seen
  pub ended : IsDone q

-- the faults of the store never fall, and where a step tells one, they rose
abbrev pub Blames : {T : Type 0} → Result (Next T) Refusal → ℕ → ℕ → Type 0
Blames (Ok t) m n = m ≤ n
Blames (Err refusal) m n = (m ≤ n) × (is_fault refusal ≡ true → Rose m n)

-- One step of a machine that had p to do and has q now.
pub record Steps {T : Type 0} (old new : View) (p q : Prog (Result T Refusal))
    (result : Result (Next T) Refusal) : Type 0 where
  pub same : new.caller ≡ old.caller
  pub blames : Blames result old.faults new.faults
  pub went : Moves old new p q result ⊎ Stops old new q result

-- From old to new there were good events, of which these are the client's own.
pub record Grows (client : ℕ) (own : List Event) (old new : List Event) : Type 0 where
  pub more : List Event
  pub is : new ≡ old ++ more
  pub good : Each IsGood old more
  pub owned : events_of client more ≡ own
