use Rattle.std.proofs.Common.{ℕ, map, replicate}
use Rattle.play_tasks.specs.Workers.{worker_rest}
use Rattle.play_run.specs.inside.Taking.{left_at}
use Rattle.play_run.specs.inside.Going.{Went}
use Rattle.play_run.proofs.run.run_to_end.Given as goal

abbrev pub invariant-loop-t : goal.invariant-loop-t
invariant-loop-t g l = (n : ℕ) × Went (replicate n l.t) (g.S.Viewed.view l.fn.store) (g.S.Viewed.view l.store) (map worker_rest l.fn.workers) (map worker_rest l.workers)

abbrev pub decreases-loop-t : goal.decreases-loop-t
decreases-loop-t g l = left_at l.workers l.t
