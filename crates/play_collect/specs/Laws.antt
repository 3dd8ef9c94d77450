-- Laws of tasks that collect.
use Rattle.std.specs.Prelude.{◌++◌, ℕ, List}
use Rattle.object_store.specs.declared.events.Event.{Event}
use Rattle.store_api.specs.Journal.{Each, IsPolite}
use Rattle.store_api.specs.Callers.{Caller, IsOther}
use Rattle.store_api.specs.Plays.{PlayKeeps, PlayLeads}
use Rattle.chunk_gc.specs.Exact.{IsOwed}
use Rattle.play_outcome.specs.declared.outcome.Outcome.{Outcome}
use Rattle.play_collect.specs.Playing.{collect_task}
use Rattle.play_collect.specs.Telling.{CollectedTells}

-- Whatever others do, each operation of the task is polite, and one that its collection may make,
-- removals in order; and the outcome tells the journal, where the task began at `start`.
abbrev pub CollectTaskLaw : Type 0
CollectTaskLaw = (by : Caller) (line cutoff : ℕ) (start : List Event)
    → PlayKeeps (λ journal client op. IsPolite journal op × IsOwed cutoff start journal client op)
    by (collect_task line cutoff) start
    × PlayLeads (CollectedTells line cutoff by.number start) by (collect_task line cutoff) start

-- what an outcome tells stays so, whatever good events others make
abbrev pub CollectOutcomeLaw : Type 0
CollectOutcomeLaw =
    (by : Caller) (line cutoff : ℕ) (outcome : Outcome) (start journal more : List Event)
    → Each (IsOther by) journal more → CollectedTells line cutoff by.number start outcome journal
    → CollectedTells line cutoff by.number start outcome (journal ++ more)
