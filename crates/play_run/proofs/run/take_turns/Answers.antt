use Rattle.std.proofs.Common.{map, replicate}
use Rattle.play_tasks.specs.Workers.{worker_rest}
use Rattle.play_run.proofs.Turning.{Went-none, CanGo-went}
use Rattle.play_run.proofs.Rounds.{Went-again}
use Rattle.play_run.proofs.run.take_turns.Goals as goal

pub loop-init : goal.loop-init
loop-init g c = Went-none (g.S.Viewed.view c.args.store.now) (map worker_rest c.args.workers.now)

pub take_turn-requires-clause-stand : goal.take_turn-requires-clause-stand
take_turn-requires-clause-stand g c = CanGo-went (replicate c.loop.counter c.args.t) (g.S.Viewed.view c.args.store.now) (g.S.Viewed.view c.loop.store) (map worker_rest c.args.workers.now) (map worker_rest c.loop.workers) c.loop.invariant c.requires.stand

pub loop-preserved : goal.loop-preserved
loop-preserved g c = Went-again c.loop.counter c.args.t (g.S.Viewed.view c.args.store.now) (g.S.Viewed.view c.loop.store) (g.S.Viewed.view c.take_turn.new.store) (map worker_rest c.args.workers.now) (map worker_rest c.loop.workers) (map worker_rest c.take_turn.new.workers) c.take_turn.result c.loop.invariant c.take_turn.ensures.took
