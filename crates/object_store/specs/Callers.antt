-- Who calls a store, and what a call adds to its journal.
use Rattle.std.specs.Prelude.{◌≡◌, ◌≢◌, ℕ, ◌+◌, ◌≤◌, ◌&&◌, nat_le, nat_lt, Bool, true, false}
use Rattle.std.specs.Prelude.{IsTrue, List, [], ◌∷◌, ◌++◌, Option, Some, None, Result, Ok, Err}
use Rattle.ice_base.specs.Ends.{Rose}
use Rattle.object_store.specs.declared.events.Op.{Op}
use Rattle.object_store.specs.declared.events.Reply.{Reply}
use Rattle.object_store.specs.declared.events.Op.TheVariants.{Get, PutNew, PutOver, Remove}
use Rattle.object_store.specs.declared.events.Op.TheVariants.{RemoveAt, List as ListPart}
use Rattle.object_store.specs.declared.events.Reply.TheVariants.{Got as Is_got, New as Is_new}
use Rattle.object_store.specs.declared.events.Reply.TheVariants.{Over as Is_over, Gone as Is_gone}
use Rattle.object_store.specs.declared.events.Reply.TheVariants.{GoneAt as Is_gone_at}
use Rattle.object_store.specs.declared.events.Reply.TheVariants.{Listed as Is_listed}
use Rattle.object_store.specs.declared.events.Reply.TheVariants.{Failed as Reply_failed}
use Rattle.object_store.specs.declared.events.Event.{Event}
use Rattle.object_store.specs.declared.events.StoreFault.{StoreFault}
use Rattle.object_store.specs.declared.events.StoreFault.TheVariants.{Failed, NoMemory}
use Rattle.object_store.specs.Machine.{IsAnswered}
use Rattle.object_store.specs.Journals.{Each}

-- Who calls: whether the store tells it the journal, its client number, and the range of numbers
-- that nobody else has (from `low` to before `end`, or without end). `home` names the cell of a
-- shared store, and is empty of a whole one.
pub record Caller : Type 0 where
  pub tells : Bool
  pub number : ℕ
  pub low : ℕ
  pub end : Option ℕ
  pub home : List ℕ

abbrev pub is_before : ℕ → Option ℕ → Bool
is_before n None = true
is_before n (Some end) = nat_lt n end

-- whether the number is in the caller's range
abbrev pub owns : Caller → ℕ → Bool
owns by n = nat_le by.low n && is_before n by.end

-- What a caller knows of a store: who it is, the journal, where it is told, and how often the store
-- has failed.
pub record View : Type 0 where
  pub caller : Caller
  pub seen : List Event
  pub faults : ℕ

-- answered as the machine does, and allowed
pub record IsGood (may : List Event → Op → Type 0) (journal : List Event)
    (event : Event) : Type 0 where
  pub legal : IsAnswered journal event
  pub polite : may journal event.op

-- good, and not of this caller
pub record IsOther (may : List Event → Op → Type 0) (by : Caller) (journal : List Event)
    (event : Event) : Type 0 where
  pub good : IsGood may journal event
  pub other : event.client ≢ by.number
  pub not_owned : owns by event.client ≡ false

-- From old to new, others made good events.
pub record Waits (may : List Event → Op → Type 0) (by : Caller)
    (old new : List Event) : Type 0 where
  pub between : List Event
  pub others : Each (IsOther may by) old between
  pub is : new ≡ old ++ between

-- the reply is one of this operation, or the operation failed
abbrev pub Fits : Op → Reply → Type 0
Fits (Get key) (Is_got got) = Unit {0}
Fits (PutNew key bytes why) (Is_new new) = Unit {0}
Fits (PutOver key bytes old why) (Is_over over) = Unit {0}
Fits (Remove key why) (Is_gone gone) = Unit {0}
Fits (RemoveAt key old why) (Is_gone_at gone) = Unit {0}
Fits (ListPart part) (Is_listed listed) = Unit {0}
Fits op (Reply_failed done) = Unit {0}
Fits op _ = ⊥

-- the event of this caller
abbrev pub own_event : Caller → Op → Reply → ℕ → Event
own_event by op reply time = record { client = by.number; op = op; reply = reply; time = time }

-- From old to new, others made good events, and then this caller made this event.
pub record Makes (may : List Event → Op → Type 0) (by : Caller) (op : Op) (reply : Reply)
    (old new : List Event) : Type 0 where
  pub middle : List Event
  pub time : ℕ
  pub waits : Waits may by old middle
  pub answered : IsAnswered middle (own_event by op reply time)
  pub is : new ≡ middle ++ own_event by op reply time ∷ []

-- What a call of an operation did. An answer and a failure are one
-- event, and want of memory is none.
abbrev pub Did : {A : Type 0} → (List Event → Op → Type 0) → (A → Reply) → Caller → Op
    → Result A StoreFault → List Event → List Event → Type 0
Did may reply by op (Ok a) old new = Makes may by op (reply a) old new
Did may reply by op (Err Failed) old new =
    (done : Bool) × Makes may by op (Reply_failed done) old new
Did may reply by op (Err NoMemory) old new = Waits may by old new

-- the count of faults never falls, and `Failed` is told only where it rose
abbrev pub Counted : {A : Type 0} → Result A StoreFault → ℕ → ℕ → Type 0
Counted (Ok a) m n = m ≤ n
Counted (Err Failed) m n = Rose m n
Counted (Err NoMemory) m n = m ≤ n

-- What a call of an operation leaves: the caller stays, the journal goes on by what was done, and
-- the faults are counted.
pub record Called {A : Type 0} (may : List Event → Op → Type 0) (reply : A → Reply) (op : Op)
    (result : Result A StoreFault) (old new : View) : Type 0 where
  pub same : new.caller ≡ old.caller
  pub did : IsTrue old.caller.tells → Did may reply old.caller op result old.seen new.seen
  pub counted : Counted result old.faults new.faults

-- a caller that is told the journal makes an operation only where it is allowed
abbrev pub MayCall : (List Event → Op → Type 0) → View → Op → Type 0
MayCall may view op = IsTrue view.caller.tells → may view.seen op

-- the view as this client
abbrev pub as_client : ℕ → View → View
as_client client view = record view { caller = record (view.caller) { number = client } }

-- a client with this number, which nobody else has
abbrev pub only : Bool → ℕ → Caller
only tells k = record { tells = tells; number = k; low = k; end = Some (k + 1); home = [] }

-- it has every number
pub record HasAll (by : Caller) : Type 0 where
  pub low : by.low ≡ 0
  pub end : by.end ≡ None

abbrev pub has_failed : Reply → Bool
has_failed (Reply_failed done) = true
has_failed (Is_got got) = false
has_failed (Is_new new) = false
has_failed (Is_over over) = false
has_failed (Is_gone gone) = false
has_failed (Is_gone_at gone) = false
has_failed (Is_listed listed) = false
