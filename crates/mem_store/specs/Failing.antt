-- Stores that fail the planned calls (own).
use Rattle.std.specs.Prelude.{◌≡◌, ℕ, ◌≤◌, List, drop, length, count_by}
use Rattle.std.specs.Prelude.{Bool, true, false, Option, None, Some, Result, Ok, Err}
use Rattle.object_store.specs.declared.events.Op.{Op}
use Rattle.object_store.specs.declared.events.Reply.{Reply}
use Rattle.object_store.specs.declared.events.Reply.TheVariants.{Failed as Reply_failed}
use Rattle.object_store.specs.declared.events.Event.{Event}
use Rattle.object_store.specs.declared.events.StoreFault.{StoreFault}
use Rattle.object_store.specs.declared.events.StoreFault.TheVariants.{Failed, NoMemory}
use Rattle.object_store.specs.Callers.{Caller, View, Makes, Waits, Called}
use Rattle.mem_store.specs.Plans.{planned}

-- ---- a failure that is asked for
-- The failure is one event of this caller; without memory there is none.
abbrev pub FailedSo : (List Event → Op → Type 0) → Bool → Caller → Op → StoreFault
    → List Event → List Event → Type 0
FailedSo may done by op Failed old new = Makes may by op (Reply_failed done) old new
FailedSo may done by op NoMemory old new = Waits may by old new

-- What an operation that is made to fail leaves: the caller stays, the journal goes on by the
-- failure, and the count of faults doesn't fall.
pub record MadeFail (may : List Event → Op → Type 0) (done : Bool) (op : Op) (fault : StoreFault)
    (old new : View) : Type 0 where
  pub same : new.caller ≡ old.caller
  pub did : FailedSo may done old.caller op fault old.seen new.seen
  pub counted : old.faults ≤ new.faults

-- ---- stores that fail by plan
abbrev pub is_failure : Reply → Bool
is_failure (Reply_failed done) = true
is_failure _ = false

-- the operation failed
abbrev pub is_failed : Event → Bool
is_failed event = is_failure event.reply

-- A store that fails by plan: the store beneath, the plan, and how many
-- events that store had at the making.
pub record ByPlan (S : Type 0) : Type 0 where
  pub inner : S
  pub plan : List (ℕ × Bool)
  pub made_at : ℕ

-- the events since the store's making
abbrev pub since_making : {S : Type 0} → (S → View) → ByPlan S → List Event
since_making view s = drop s.made_at (view s.inner).seen

-- its count of faults is the number of failed events since its making
abbrev pub faulty_view : {S : Type 0} → (S → View) → ByPlan S → View
faulty_view view s = record (view s.inner) { faults = count_by is_failed (since_making view s) }

-- what is planned for the next call, whose number is that of the events since the store's making
abbrev pub planned_next : {S : Type 0} → (S → View) → ByPlan S → Option Bool
planned_next view s = planned s.plan (length (since_making view s))

-- an answer as the reply that it is
abbrev pub as_reply : {A : Type 0} → (A → Reply) → Result A StoreFault → Result Reply StoreFault
as_reply reply (Ok a) = Ok (reply a)
as_reply reply (Err fault) = Err fault

-- It fails where that is planned, and else answers as the store beneath.
abbrev pub Obeys : (List Event → Op → Type 0) → Option Bool → Op → Result Reply StoreFault
    → View → View → Type 0
Obeys may None op result old new = Called may (λ reply. reply) op result old new
Obeys may (Some done) op (Ok reply) old new = ⊥
Obeys may (Some done) op (Err fault) old new = MadeFail may done op fault old new

-- ... exactly as the store beneath does, or fails
abbrev pub ObeysExactly : {S : Type 0} → (Op → Result Reply StoreFault → S → S → Type 0)
    → (Bool → Op → StoreFault → S → S → Type 0) → Option Bool → Op
    → Result Reply StoreFault → S → S → Type 0
ObeysExactly does fails None op result old new = does op result old new
ObeysExactly does fails (Some done) op (Ok reply) old new = ⊥
ObeysExactly does fails (Some done) op (Err fault) old new = fails done op fault old new

-- An operation goes by the plan, which stays.
pub record GoesByPlan {S : Type 0} (may : List Event → Op → Type 0)
    (view : S → View) (does : Op → Result Reply StoreFault → S → S → Type 0)
    (fails : Bool → Op → StoreFault → S → S → Type 0) (op : Op) (result : Result Reply StoreFault)
    (old new : ByPlan S) : Type 0 where
  pub obeys : Obeys may (planned_next view old) op result (view old.inner) (view new.inner)
  pub exactly : ObeysExactly does fails (planned_next view old) op result old.inner new.inner
  pub plan : new.plan ≡ old.plan
  pub made_at : new.made_at ≡ old.made_at

-- ---- what else is asked of the store beneath, beside the plan
pub record FailsBeneath {S : Type 0} (fails : Bool → Op → StoreFault → S → S → Type 0) (done : Bool)
    (op : Op) (fault : StoreFault) (old new : ByPlan S) : Type 0 where
  pub exactly : fails done op fault old.inner new.inner
  pub plan : new.plan ≡ old.plan
  pub made_at : new.made_at ≡ old.made_at

pub record ServesBeneath {S : Type 0} (serves : ℕ → S → S → Type 0) (client : ℕ)
    (old new : ByPlan S) : Type 0 where
  pub exactly : serves client old.inner new.inner
  pub plan : new.plan ≡ old.plan
  pub made_at : new.made_at ≡ old.made_at
