use Rattle.chunk_gc.specs.Resting.{collect_rest}
use Rattle.play_collect.specs.Playing.{outcome_of}
use Rattle.store_api.proofs.Ended.{is-live, is-polite}
use Rattle.play_collect.proofs.Stepping.{task-acts}
use Rattle.play_collect.proofs.worker.CollectWorker.step.Goals as goal

pub step-requires-clause-live : goal.step-requires-clause-live
step-requires-clause-live g c = is-live (outcome_of c.args.self.now.line) (collect_rest c.args.self.now.collect) c.requires.live

pub step-requires-clause-polite : goal.step-requires-clause-polite
step-requires-clause-polite g c = λ tells. is-polite (outcome_of c.args.self.now.line) (collect_rest c.args.self.now.collect) (g.S.Viewed.view c.args.store.now).seen (c.requires.polite tells)

pub returns-clause-acts : goal.returns-clause-acts
returns-clause-acts g c =
    task-acts c.args.self.now.line (g.S.Viewed.view c.args.store.now) (g.S.Viewed.view c.step.new.store) (collect_rest c.args.self.now.collect) (collect_rest c.step.new.self) c.step.ensures.acts
