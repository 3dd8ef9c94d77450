use Rattle.std.proofs.Common.{map, replicate}
use Rattle.play_tasks.specs.Workers.{worker_rest}
use Rattle.play_run.specs.inside.Going.{Went}
use Rattle.play_run.proofs.run.take_turns.Given as goal

abbrev pub invariant-loop : goal.invariant-loop
invariant-loop g l = Went (replicate l.counter l.t) (g.S.Viewed.view l.fn.store) (g.S.Viewed.view l.store) (map worker_rest l.fn.workers) (map worker_rest l.workers)
