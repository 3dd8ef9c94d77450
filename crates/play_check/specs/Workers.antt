-- What a worker that checks has still to do.
use Rattle.std.specs.Prelude.{ℕ}
use Rattle.store_api.specs.Plays.{Play, ended_as}
use Rattle.repo_check.specs.Resting.{check_rest, check_left}
use Rattle.play_outcome.specs.declared.outcome.Outcome.{Outcome}
use Rattle.play_check.specs.declared.worker.CheckWorker.{CheckWorker}
use Rattle.play_check.specs.Playing.{outcome_of}

-- what is still to be done
abbrev pub checking_rest : CheckWorker → Play Outcome
checking_rest w = ended_as (outcome_of w.line) (check_rest w.check)

-- how many steps are left at most
abbrev pub checking_left : CheckWorker → ℕ
checking_left w = check_left w.check
