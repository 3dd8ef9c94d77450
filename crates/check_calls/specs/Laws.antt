-- What checks say of the store, as laws.
use Rattle.std.specs.Prelude.{◌≡◌, ℕ, List, Ok}
use Rattle.object_store.specs.declared.events.Event.{Event}
use Rattle.store_api.specs.Callers.{Caller, Waits}
use Rattle.store_api.specs.Plays.{PlayLeads}
use Rattle.check_reports.specs.declared.faults.Checked.{Checked}
use Rattle.repo_check.specs.declared.standing.CheckReport.{CheckReport}
use Rattle.repo_check.specs.Plays.{check_play}
use Rattle.repo_check.specs.Exact.{CheckTells}
use Rattle.check_calls.specs.Beside.{IsCalm, IsStill}
use Rattle.check_calls.specs.Told.{AreWholeAsRead, IsExact, TellsNoFailure}

-- Sound means whole: where a check answers that all is intact, and between its first operation and
-- its last nothing was removed and no snapshot put over, each ref as read is whole in the store as
-- the check's last operation found it.
abbrev pub SoundLaw : Type 0
SoundLaw =
    (client : ℕ) (start first last journal : List Event) (report : CheckReport) (checked : Checked)
    → CheckTells client start report journal → report.result ≡ Ok checked
    → IsCalm client start first last journal → AreWholeAsRead client start last

-- Exact when still: where nobody else did anything meanwhile, a check answers that all is intact
-- where each ref is whole, and else tells faults.
abbrev pub StillLaw : Type 0
StillLaw =
    (client : ℕ) (start first last journal : List Event) (report : CheckReport)
    → CheckTells client start report journal → TellsNoFailure client start report journal
    → IsStill client start first last journal → IsExact report.result last

-- Whatever others do, a check tells faults only where none of its operations
-- failed; and it says so later, too.
pub record FailureLaw : Type 0 where
  pub leads : (by : Caller) (start : List Event)
      → PlayLeads (TellsNoFailure by.number start) by check_play start
  pub kept : (by : Caller) (start : List Event) (report : CheckReport) (old new : List Event)
      → Waits by old new → CheckTells by.number start report old
      → TellsNoFailure by.number start report old → TellsNoFailure by.number start report new
