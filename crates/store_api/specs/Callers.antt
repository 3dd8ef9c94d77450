-- Who calls a store, and what a call adds to its journal, where callers are polite.
use Rattle.std.specs.Prelude.{ℕ, List, Result}
use Rattle.object_store.specs.declared.events.Op.{Op}
use Rattle.object_store.specs.declared.events.Reply.{Reply}
use Rattle.object_store.specs.declared.events.Event.{Event}
use Rattle.object_store.specs.declared.events.StoreFault.{StoreFault}
pub use Rattle.object_store.specs.Callers.{Caller, View, is_before, owns, Fits, own_event}
pub use Rattle.object_store.specs.Callers.{Counted, as_client, only, HasAll, has_failed}
use Rattle.object_store.specs.Callers.{IsOther as IsOtherBy, Waits as WaitsBy, Makes as MakesBy}
use Rattle.object_store.specs.Callers.{Did as DidBy, Called as CalledBy, MayCall as MayCallBy}
use Rattle.store_api.specs.Journal.{IsPolite}

-- legal and polite, and not of this caller
abbrev pub IsOther : Caller → List Event → Event → Type 0
IsOther = IsOtherBy IsPolite

-- From old to new, others made good events.
abbrev pub Waits : Caller → List Event → List Event → Type 0
Waits = WaitsBy IsPolite

-- From old to new, others made good events, and then this caller made this event.
abbrev pub Makes : Caller → Op → Reply → List Event → List Event → Type 0
Makes = MakesBy IsPolite

-- What a call of an operation did. An answer and a failure are one
-- event, and want of memory is none.
abbrev pub Did : {A : Type 0} → (A → Reply) → Caller → Op → Result A StoreFault
    → List Event → List Event → Type 0
Did reply = DidBy IsPolite reply

-- What a call of an operation leaves: the caller stays, the journal goes on by what was done, and
-- the faults are counted.
abbrev pub Called : {A : Type 0} → (A → Reply) → Op → Result A StoreFault → View → View → Type 0
Called reply = CalledBy IsPolite reply

-- a caller that is told the journal makes an operation only where it is polite
abbrev pub MayCall : View → Op → Type 0
MayCall = MayCallBy IsPolite
