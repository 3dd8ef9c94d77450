-- Laws of tasks.
use Rattle.std.specs.Prelude.{◌++◌, List}
use Rattle.ice_ids.specs.declared.drawing.AnyIds.{AnyIds}
use Rattle.object_store.specs.declared.events.Event.{Event}
use Rattle.store_api.specs.Journal.{Each}
use Rattle.store_api.specs.Callers.{Caller, IsOther}
use Rattle.store_api.specs.Plays.{PlayKeeps, PlayLeads}
use Rattle.play_script.specs.declared.scripts.Task.{Task}
use Rattle.play_script.specs.Well.{IsWellTask}
use Rattle.play_outcome.specs.declared.outcome.Outcome.{Outcome}
use Rattle.play_tasks.specs.Playing.{task_play}
use Rattle.play_tasks.specs.Owing.{IsDue, BeforeChange}
use Rattle.play_tasks.specs.Telling.{TellsOutcome}

-- Whatever others do, each operation of a well task is polite, and what the task owes, of its
-- client's own puts as well; if it opens a session, each that puts something comes before the
-- client changed a branch; and the outcome tells the journal, where the task began at `start`.
abbrev pub TaskLaw : Type 0
TaskLaw = (by : Caller) (ids : AnyIds) (task : Task) (start : List Event) → IsWellTask task
    → PlayKeeps (IsDue ids task by.number start) by (task_play ids task) start
    × PlayKeeps (λ journal client op. BeforeChange task client start journal op)
    by (task_play ids task) start
    × PlayLeads (TellsOutcome ids task by.number start) by (task_play ids task) start

-- what an outcome tells stays so, whatever good events others make
abbrev pub OutcomeLaw : Type 0
OutcomeLaw =
    (by : Caller) (ids : AnyIds) (task : Task) (outcome : Outcome) (start journal more : List Event)
    → Each (IsOther by) journal more → TellsOutcome ids task by.number start outcome journal
    → TellsOutcome ids task by.number start outcome (journal ++ more)
