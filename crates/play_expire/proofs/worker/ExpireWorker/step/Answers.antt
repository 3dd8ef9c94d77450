use Rattle.expiry.specs.Resting.{expire_rest}
use Rattle.play_expire.specs.Playing.{outcome_of}
use Rattle.store_api.proofs.Ended.{is-live, is-polite}
use Rattle.play_expire.proofs.Stepping.{task-acts}
use Rattle.play_expire.proofs.worker.ExpireWorker.step.Goals as goal

pub step-requires-clause-live : goal.step-requires-clause-live
step-requires-clause-live g c = is-live (outcome_of c.args.self.now.line) (expire_rest c.args.self.now.expire) c.requires.live

pub step-requires-clause-polite : goal.step-requires-clause-polite
step-requires-clause-polite g c = λ tells. is-polite (outcome_of c.args.self.now.line) (expire_rest c.args.self.now.expire) (g.S.Viewed.view c.args.store.now).seen (c.requires.polite tells)

pub returns-clause-acts : goal.returns-clause-acts
returns-clause-acts g c =
    task-acts c.args.self.now.line (g.S.Viewed.view c.args.store.now) (g.S.Viewed.view c.step.new.store) (expire_rest c.args.self.now.expire) (expire_rest c.step.new.self) c.step.ensures.acts
