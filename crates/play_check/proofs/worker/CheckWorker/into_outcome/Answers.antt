use Rattle.repo_check.specs.Resting.{check_rest}
use Rattle.play_check.specs.Playing.{outcome_of}
use Rattle.store_api.proofs.Ended.{has-ended}
use Rattle.play_check.proofs.worker.CheckWorker.into_outcome.Goals as goal

pub into_report-requires : goal.into_report-requires
into_report-requires c = has-ended (outcome_of c.args.self.line) (check_rest c.args.self.check) c.requires
