-- Laws of tasks that call on refs.
use Rattle.std.specs.Prelude.{◌++◌, List, []}
use Rattle.object_store.specs.declared.events.Event.{Event}
use Rattle.store_api.specs.Journal.{Each, IsPolite}
use Rattle.store_api.specs.Callers.{Caller, IsOther}
use Rattle.store_api.specs.Plays.{PlayKeeps, PlayLeads}
use Rattle.play_script.specs.declared.scripts.Line.{Line}
use Rattle.play_outcome.specs.declared.outcome.Outcome.{Outcome}
use Rattle.play_refs.specs.Playing.{refs_play}
use Rattle.play_refs.specs.Telling.{OwesRefs, RefsTells}

-- Whatever others do, each operation of the task is polite, and one that a task on refs may make;
-- and the outcome tells the journal, where the task began at `start`.
abbrev pub RefsTaskLaw : Type 0
RefsTaskLaw =
    (by : Caller) (body : List Line) (start : List Event)
    → PlayKeeps (λ journal client op. IsPolite journal op × OwesRefs op)
    by (refs_play body []) start
    × PlayLeads (RefsTells body by.number start) by (refs_play body []) start

-- what an outcome tells stays so, whatever good events others make
abbrev pub RefsOutcomeLaw : Type 0
RefsOutcomeLaw =
    (by : Caller) (body : List Line) (outcome : Outcome) (start journal more : List Event)
    → Each (IsOther by) journal more → RefsTells body by.number start outcome journal
    → RefsTells body by.number start outcome (journal ++ more)
