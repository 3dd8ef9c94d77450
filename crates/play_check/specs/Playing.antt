-- The play of a task that checks: one check, and how the task ends by it. (Own.)
use Rattle.std.specs.Prelude.{ℕ, []}
use Rattle.store_api.specs.Plays.{Play, ended_as}
use Rattle.repo_check.specs.declared.standing.CheckReport.{CheckReport}
use Rattle.repo_check.specs.Plays.{check_play}
use Rattle.play_outcome.specs.declared.outcome.End.{End}
use Rattle.play_outcome.specs.declared.outcome.End.TheVariants as end
use Rattle.play_outcome.specs.declared.outcome.Outcome.{Outcome}

-- how a task ends on this line of the script whose check ended so
abbrev pub end_by : (line : ℕ) → CheckReport → End
end_by line r = end.Checked line r.faults r.result

abbrev pub outcome_of : (line : ℕ) → CheckReport → Outcome
outcome_of line r = record { shown = []; end = end_by line r }

abbrev pub check_task : (line : ℕ) → Play Outcome
check_task line = ended_as (outcome_of line) check_play
