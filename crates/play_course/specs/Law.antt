-- The law that a run keeps what is promised.
use Rattle.std.specs.Prelude.{ℕ, List, Result, IsTrue, All}
use Rattle.ice_ids.specs.declared.drawing.Draw.{Draw}
use Rattle.zarr_tree.specs.Changes.{Changes}
use Rattle.histories.specs.Formats.{files_by}
use Rattle.store_api.specs.declared.machines.Refusal.{Refusal}
use Rattle.store_api.specs.Callers.{View}
use Rattle.store_api.specs.Journal.{tree_of}
use Rattle.play_script.specs.declared.scripts.Script.{Script}
use Rattle.play_script.specs.Well.{IsWellTask}
use Rattle.play_outcome.specs.declared.outcome.Outcome.{Outcome}
use Rattle.play_outcome.specs.declared.outcome.RefLine.{RefLine}
use Rattle.run_histories.specs.Runs.{IsSound}
use Rattle.run_histories.specs.Sources.{IsNewRun}
use Rattle.run_histories.specs.Told.{HasHistories}
use Rattle.play_course.specs.Course.{Course}
use Rattle.run_histories.specs.Keeping.{KeepsNeeded}
use Rattle.play_course.specs.Promise.{Fulfils}

-- the histories of a run, and what is promised of it by them; and its
-- collections keep what is needed
pub record KeepsPromise (draw : Draw) (script : Script) (before : ℕ → Changes)
    (old : View) (outcomes : List Outcome) (refs : Result (List RefLine) Refusal)
    (begun new : View) : Type 0 where
  pub histories : HasHistories draw script.tasks before old.seen begun.seen new.seen
  pub needed : KeepsNeeded draw script.tasks outcomes old.seen begun.seen new.seen
  pub keeps : Fulfils (files_by (tree_of new.seen)) script.tasks outcomes refs histories.changes
      old.seen begun.seen new.seen

-- Where a script was played over a store that tells its journal, and that was sound and the
-- clients' ids were new to it, what is promised is kept.
abbrev pub PromiseLaw : Type 0
PromiseLaw =
    (draw : Draw) (script : Script) (before : ℕ → Changes)
    (old new : View) (opening : Result (Unit {0}) Refusal)
    (outcomes : List Outcome) (refs : Result (List RefLine) Refusal)
    → All IsWellTask script.tasks
    → (c : Course draw script old new opening outcomes refs) → IsTrue old.caller.tells
    → IsSound old.seen before → IsNewRun draw script.tasks old.seen
    → KeepsPromise draw script before old outcomes refs c.begun new
