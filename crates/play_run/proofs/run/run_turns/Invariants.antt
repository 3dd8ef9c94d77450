use Rattle.std.proofs.Common.{map, take}
use Rattle.play_tasks.specs.Workers.{worker_rest}
use Rattle.play_run.specs.Order.{places_of}
use Rattle.play_run.specs.inside.Going.{Went}
use Rattle.play_run.proofs.run.run_turns.Given as goal

abbrev pub invariant-loop-turn : goal.invariant-loop-turn
invariant-loop-turn g l = Went (places_of (take l.turn-index l.turns)) (g.S.Viewed.view l.fn.store) (g.S.Viewed.view l.store) (map worker_rest l.fn.workers) (map worker_rest l.workers)
