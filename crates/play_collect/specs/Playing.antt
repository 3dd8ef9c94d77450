-- The play of a task that collects: one call of a collection, and how the task ends by it. (Own.)
use Rattle.std.specs.Prelude.{ℕ, [], Result, Ok, Err}
use Rattle.store_api.specs.declared.machines.Refusal.{Refusal}
use Rattle.store_api.specs.Plays.{Play, ended_as}
use Rattle.cleanup_reports.specs.declared.removed.Removed.{Removed}
use Rattle.chunk_gc.specs.declared.standing.Collected.{Collected}
use Rattle.chunk_gc.specs.Plays.{collect_play}
use Rattle.play_outcome.specs.declared.outcome.End.{End}
use Rattle.play_outcome.specs.declared.outcome.End.TheVariants as end
use Rattle.play_outcome.specs.declared.outcome.Outcome.{Outcome}

-- how a task ends on this line of the script whose collection was told
-- of such removals, and ended so
abbrev pub end_by : (line : ℕ) → Removed → Result (Unit {0}) Refusal → End
end_by line removed (Ok done) = end.Collected removed
end_by line removed (Err why) = end.Stopped line why removed

abbrev pub outcome_of : (line : ℕ) → Collected → Outcome
outcome_of line c = record { shown = []; end = end_by line c.removed c.result }

abbrev pub collect_task : (line cutoff : ℕ) → Play Outcome
collect_task line cutoff = ended_as (outcome_of line) (collect_play cutoff)
