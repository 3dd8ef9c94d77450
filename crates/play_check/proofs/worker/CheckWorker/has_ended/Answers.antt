use Rattle.repo_check.specs.Resting.{check_rest}
use Rattle.play_check.specs.Playing.{outcome_of}
use Rattle.store_api.proofs.Ended.{live-as, ended-so}
use Rattle.play_check.proofs.worker.CheckWorker.has_ended.Goals as goal

pub returns-clause-ended : goal.returns-clause-ended
returns-clause-ended c = λ e. ended-so (outcome_of c.args.self.now.line) (check_rest c.args.self.now.check) (c.has_ended.ensures.ended e)

pub returns-clause-live : goal.returns-clause-live
returns-clause-live c = λ e. live-as (outcome_of c.args.self.now.line) (check_rest c.args.self.now.check) (c.has_ended.ensures.live e)
