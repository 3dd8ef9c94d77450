use Rattle.play_tasks.specs.Workers.{worker_rest, worker_left}
use Rattle.play_at_once.specs.inside.Stepping.{Went}
use Rattle.play_at_once.proofs.runner.run_to_end.Given as goal

abbrev pub invariant-loop-worker : goal.invariant-loop-worker
invariant-loop-worker g l = Went l.place (g.S.Viewed.view l.initial.store) (g.S.Viewed.view l.store) (worker_rest l.initial.worker) (worker_rest l.worker)

abbrev pub decreases-loop-worker : goal.decreases-loop-worker
decreases-loop-worker g l = worker_left l.worker
