-- Exact check, as a law.
use Rattle.std.specs.Prelude.{ℕ, List}
use Rattle.object_store.specs.declared.events.Op.{Op}
use Rattle.object_store.specs.declared.events.Event.{Event}
use Rattle.store_api.specs.Callers.{Caller, Waits}
use Rattle.store_api.specs.Plays.{PlayKeeps, PlayLeads}
use Rattle.repo_check.specs.declared.standing.CheckReport.{CheckReport}
use Rattle.repo_check.specs.Plays.{check_play}
use Rattle.repo_check.specs.Exact.{IsRead, CheckTells}

-- Whatever others do from `start` on: each operation to come reads; the report says exactly what is
-- wrong with what is named; and it says so later, too.
pub record ChecksExactly (by : Caller) (start : List Event) : Type 0 where
  pub reads : PlayKeeps (λ journal client op. IsRead op) by check_play start
  pub leads : PlayLeads (CheckTells by.number start) by check_play start
  pub kept : (report : CheckReport) (old new : List Event) → Waits by old new
      → CheckTells by.number start report old → CheckTells by.number start report new

abbrev pub CheckLaw : Type 0
CheckLaw = (by : Caller) (start : List Event) → ChecksExactly by start
