use Rattle.repo_check.specs.Resting.{check_rest}
use Rattle.play_check.specs.Playing.{outcome_of}
use Rattle.store_api.proofs.Ended.{is-live}
use Rattle.play_check.proofs.Stepping.{task-acts}
use Rattle.play_check.proofs.worker.CheckWorker.step.Goals as goal

pub step-requires : goal.step-requires
step-requires g c = is-live (outcome_of c.args.self.now.line) (check_rest c.args.self.now.check) c.requires

pub returns-clause-acts : goal.returns-clause-acts
returns-clause-acts g c =
    task-acts c.args.self.now.line (g.S.Viewed.view c.args.store.now) (g.S.Viewed.view c.step.new.store) (check_rest c.args.self.now.check) (check_rest c.step.new.self) c.step.ensures.acts
