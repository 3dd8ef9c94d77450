-- A mirror of stores on which nobody else acts (own).
use Rattle.std.specs.Prelude.{◌≡◌, ◌≤◌, ℕ, true, IsTrue, List, ◌++◌}
use Rattle.ice_base.specs.Ends.{Rose}
use Rattle.object_store.specs.declared.events.Event.{Event}
use Rattle.store_api.specs.Journal.{Each}
use Rattle.store_api.specs.Callers.{View}
use Rattle.two_stores.specs.declared.side.Side.{Side}
use Rattle.two_stores.specs.Sides.{Both, at_side, callers_of, seen_of}
use Rattle.mirror_reports.specs.declared.outcome.MirrorEnd.{MirrorEnd}
use Rattle.mirror.specs.Laws.{tells_fault}
use Rattle.mirror_calls.specs.Laws.{MirrorTells, BothTell, RefsSame}

-- the client's
abbrev pub IsOf : ℕ → List Event → Event → Type 0
IsOf client before event = event.client ≡ client

-- the journal goes on by the client's own events
pub record GoesAlone (client : ℕ) (old new : List Event) : Type 0 where
  pub more : List Event
  pub is : new ≡ old ++ more
  pub each : Each (IsOf client) old more

-- From `old` to `new` the mirror made its own operations, and nobody did anything else; and what it
-- tells is so. Of stores that both tell their journals, each ref that is told names a snapshot with
-- the same tree in both. A failure of a store is told only where its count of faults rose.
pub record WasMirrored (old new : Both View) (end : MirrorEnd) : Type 0 where
  pub callers : callers_of new ≡ callers_of old
  pub tells : MirrorTells (callers_of old) (seen_of old) end (seen_of new)
  pub trees : BothTell (callers_of old) → RefsSame (callers_of old) (seen_of old) end (seen_of new)
  pub alone : (side : Side) → IsTrue (at_side side old).caller.tells
      → GoesAlone (at_side side old).caller.number (at_side side old).seen (at_side side new).seen
  pub blames : (side : Side) → tells_fault side end ≡ true
      → Rose (at_side side old).faults (at_side side new).faults
  pub counted : (side : Side) → (at_side side old).faults ≤ (at_side side new).faults
