-- That tasks ran at once over one store. (Own.)
use Rattle.std.specs.Prelude.{◌≡◌, Bool, IsTrue, List, ◌++◌}
use Rattle.ice_ids.specs.declared.drawing.Draw.{Draw}
use Rattle.object_store.specs.declared.events.Event.{Event}
use Rattle.store_api.specs.Journal.{Each}
use Rattle.play_script.specs.declared.scripts.Task.{Task}
use Rattle.play_outcome.specs.declared.outcome.Outcome.{Outcome}
use Rattle.play_tasks.specs.Tasks.{IsOfClient}
use Rattle.play_tasks.specs.Played.{AllPlayed}

-- The tasks ran to these outcomes, in whatever order their clients acted. Where the store tells
-- its journal, it goes on by exactly their operations, each of them good and owed by its
-- client's task. Those of each task's client, picked out of all, are a path of its play to its
-- outcome, and no other client acts.
pub record RanAtOnce (draw : Draw) (tasks : List Task) (tells : Bool) (outcomes : List Outcome)
    (old new : List Event) : Type 0 where
  pub own : List Event
  pub is : IsTrue tells → new ≡ old ++ own
  pub careful : IsTrue tells → Each (IsOfClient draw tasks old) old own
  pub played : AllPlayed draw tasks outcomes own
