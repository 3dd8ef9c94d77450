use Rattle.std.proofs.Common.{map, take}
use Rattle.play_tasks.specs.Workers.{worker_rest}
use Rattle.play_run.specs.Order.{Begin}
use Rattle.play_run.proofs.workers.workers_for.Given as goal

abbrev pub invariant-loop-place : goal.invariant-loop-place
invariant-loop-place l = Begin l.draw (take l.place l.tasks) (map worker_rest l.workers.items)
