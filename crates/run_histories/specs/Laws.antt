-- The law that collections of a run keep what is needed.
use Rattle.std.specs.Prelude.{ℕ, List}
use Rattle.ice_ids.specs.declared.drawing.Draw.{Draw}
use Rattle.zarr_tree.specs.Changes.{Changes}
use Rattle.object_store.specs.declared.events.Event.{Event}
use Rattle.play_script.specs.declared.scripts.Task.{Task}
use Rattle.play_outcome.specs.declared.outcome.Outcome.{Outcome}
use Rattle.play_tasks.specs.Tasks.{AllTold}
use Rattle.run_histories.specs.Told.{HasHistories}
use Rattle.run_histories.specs.Keeping.{KeepsNeeded}

-- of each run whose branches have their histories, and whose outcomes tell the journal
abbrev pub NeededLaw : Type 0
NeededLaw =
    (draw : Draw) (tasks : List Task) (before : ℕ → Changes)
    (outcomes : List Outcome) (old start new : List Event)
    → HasHistories draw tasks before old start new → AllTold draw tasks outcomes start new
    → KeepsNeeded draw tasks outcomes old start new
