-- Two stores, and what happens on either side of them.
use Rattle.std.specs.Prelude.{List, IsTrue}
use Rattle.object_store.specs.declared.events.Event.{Event}
use Rattle.store_api.specs.Callers.{Caller, View, Waits}
use Rattle.two_stores.specs.declared.side.Side.{Side}
use Rattle.two_stores.specs.declared.side.Side.TheVariants.{From, To}

-- one thing of each side
pub record Both (A : Type 0) : Type 0 where
  pub from : A
  pub to : A

abbrev pub pair_of : {A : Type 0} → A → A → Both A
pair_of a b = record { from = a; to = b }

abbrev pub at_side : {A : Type 0} → Side → Both A → A
at_side From b = b.from
at_side To b = b.to

abbrev pub other : Side → Side
other From = To
other To = From

-- who calls on each side, and what each knows of the journals
abbrev pub callers_of : Both View → Both Caller
callers_of views = pair_of (views.from.caller) (views.to.caller)

abbrev pub seen_of : Both View → Both (List Event)
seen_of views = pair_of (views.from.seen) (views.to.seen)

-- From old to new, others made good events, on either side. Of a store that doesn't
-- tell its journal nothing is said.
abbrev pub OthersCame : Both Caller → (old new : Both (List Event)) → Type 0
OthersCame by old new =
    (side : Side) → IsTrue (at_side side by).tells
    → Waits (at_side side by) (at_side side old) (at_side side new)
