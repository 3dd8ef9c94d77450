use Rattle.play_check.specs.Workers.{checking_rest}
use Rattle.lone_check.proofs.Coming.{come-on}
use Rattle.lone_check.proofs.checking.run_to_end.Goals as goal

pub loop-worker-preserved : goal.loop-worker-preserved
loop-worker-preserved g c =
    come-on (g.S.Viewed.view c.args.store.now) (g.S.Viewed.view c.loop-worker.store) (g.S.Viewed.view c.step.new.store) (checking_rest c.loop-worker.worker) (checking_rest c.step.new.self) (g.met.S.WholeStore.alone c.loop-worker.store) c.loop-worker.invariant c.step.ensures.acts
