-- What the outcome of a task that checks says of the journal. (Own.)
use Rattle.std.specs.Prelude.{◌≡◌, ℕ, List}
use Rattle.object_store.specs.declared.events.Event.{Event}
use Rattle.repo_check.specs.declared.standing.CheckReport.{CheckReport}
use Rattle.repo_check.specs.Exact.{CheckTells}
use Rattle.check_calls.specs.Told.{TellsNoFailure}
use Rattle.play_outcome.specs.declared.outcome.Outcome.{Outcome}
use Rattle.play_check.specs.Playing.{outcome_of}

-- It shows nothing, and its end is that of a check: where all that is named by what its client's
-- own operations were told is intact, how much was found; else what is wrong; and faults are its
-- refusal only where no operation failed.
pub record CheckedTells (line client : ℕ) (start : List Event) (outcome : Outcome)
    (journal : List Event) : Type 0 where
  pub report : CheckReport
  pub is : outcome ≡ outcome_of line report
  pub tells : CheckTells client start report journal
  pub no_failure : TellsNoFailure client start report journal
