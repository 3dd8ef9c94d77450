-- A mirror in the journals of both stores, beside others.
use Rattle.std.specs.Prelude.{◌≡◌, ℕ, IsTrue, List, [], ◌∷◌, ◌++◌}
use Rattle.object_store.specs.declared.events.Event.{Event}
use Rattle.store_api.specs.Journal.{Each, IsGood}
use Rattle.store_api.specs.Callers.{Caller}
use Rattle.store_api.specs.Program.{events_of}
use Rattle.two_stores.specs.declared.side.Side.{Side}
use Rattle.two_stores.specs.declared.side.Side.TheVariants.{From, To}
use Rattle.two_stores.specs.Sides.{Both, at_side}
use Rattle.mirror_calls.specs.Deeds.{Deed}
use Rattle.mirror_calls.specs.Owed.{MayDo}

-- what events are as operations of this side
abbrev pub deeds_in : Side → List Event → List Deed
deeds_in side [] = []
deeds_in side (event ∷ events) = record { side = side; op = event.op; reply = event.reply }
    ∷ deeds_in side events

-- those of this side
abbrev pub on_this : (side at : Side) → Deed → List Deed → List Deed
on_this From From deed deeds = deed ∷ deeds
on_this From To deed deeds = deeds
on_this To From deed deeds = deeds
on_this To To deed deeds = deed ∷ deeds

abbrev pub deeds_on : Side → List Deed → List Deed
deeds_on side [] = []
deeds_on side (deed ∷ deeds) = on_this side deed.side deed (deeds_on side deeds)

-- From `start` on good events came, and the client's own are these.
pub record GrewBy (client : ℕ) (start journal : List Event) (side : Side)
    (deeds : List Deed) : Type 0 where
  pub more : List Event
  pub is : journal ≡ start ++ more
  pub good : Each IsGood start more
  pub own : deeds_in side (events_of client more) ≡ deeds_on side deeds

-- each operation was one that a mirror may do next by those before it
abbrev pub AreOwed : List Deed → Type 0
AreOwed deeds =
    (before after : List Deed) (deed : Deed) → deeds ≡ before ++ deed ∷ after
    → MayDo before deed.side deed.op

-- From `start` on the mirror's own operations in both journals are these, of the stores that
-- tell theirs; and each was owed.
pub record AreDeeds (by : Both Caller) (start seen : Both (List Event))
    (deeds : List Deed) : Type 0 where
  pub on : (side : Side) → IsTrue (at_side side by).tells
      → GrewBy (at_side side by).number (at_side side start) (at_side side seen) side deeds
  pub owed : AreOwed deeds
