-- Laws of tasks that check.
use Rattle.std.specs.Prelude.{◌++◌, ℕ, List}
use Rattle.object_store.specs.declared.events.Event.{Event}
use Rattle.store_api.specs.Journal.{Each, IsPolite}
use Rattle.store_api.specs.Callers.{Caller, IsOther}
use Rattle.store_api.specs.Plays.{PlayKeeps, PlayLeads}
use Rattle.repo_check.specs.Exact.{IsRead}
use Rattle.play_outcome.specs.declared.outcome.Outcome.{Outcome}
use Rattle.play_check.specs.Playing.{check_task}
use Rattle.play_check.specs.Telling.{CheckedTells}

-- Whatever others do, each operation of the task is polite, and reads; and the outcome tells the
-- journal, where the task began at `start`.
abbrev pub CheckTaskLaw : Type 0
CheckTaskLaw = (by : Caller) (line : ℕ) (start : List Event)
    → PlayKeeps (λ journal client op. IsPolite journal op × IsRead op) by (check_task line) start
    × PlayLeads (CheckedTells line by.number start) by (check_task line) start

-- what an outcome tells stays so, whatever good events others make
abbrev pub CheckOutcomeLaw : Type 0
CheckOutcomeLaw =
    (by : Caller) (line : ℕ) (outcome : Outcome) (start journal more : List Event)
    → Each (IsOther by) journal more → CheckedTells line by.number start outcome journal
    → CheckedTells line by.number start outcome (journal ++ more)
