use Rattle.play_tasks.specs.Workers.{worker_rest}
use Rattle.play_at_once.proofs.Steps.{Went-none, Went-more, polite-went}
use Rattle.play_at_once.proofs.runner.run_to_end.Goals as goal

pub loop-worker-init : goal.loop-worker-init
loop-worker-init g c = Went-none c.args.place (g.S.Viewed.view c.args.store.now) (worker_rest c.args.worker.now)

pub step-requires-clause-polite : goal.step-requires-clause-polite
step-requires-clause-polite g c = polite-went c.args.place (g.S.Viewed.view c.args.store.now) (g.S.Viewed.view c.loop-worker.store) (worker_rest c.args.worker.now) (worker_rest c.loop-worker.worker) c.requires.stand c.loop-worker.invariant

pub loop-worker-preserved : goal.loop-worker-preserved
loop-worker-preserved g c =
    Went-more c.outcome_law.ensures c.args.place (g.S.Viewed.view c.args.store.now) (g.S.Viewed.view c.loop-worker.store) (g.S.Viewed.view c.step.new.store) (worker_rest c.args.worker.now) (worker_rest c.loop-worker.worker) (worker_rest c.step.new.self) c.requires.client c.loop-worker.invariant c.step.ensures.acts
