use Rattle.std.proofs.Common.{◌+◌, refl, map, replicate}
use Rattle.play_tasks.specs.Workers.{worker_rest}
use Rattle.play_run.proofs.Turning.{Went-none, CanGo-went}
use Rattle.play_run.proofs.Rounds.{Went-again}
use Rattle.play_run.proofs.run.run_to_end.Goals as goal

pub loop-t-init : goal.loop-t-init
loop-t-init g c = (0, Went-none (g.S.Viewed.view c.args.store.now) (map worker_rest c.args.workers.now))

pub take_turn-requires-clause-stand : goal.take_turn-requires-clause-stand
take_turn-requires-clause-stand g c = CanGo-went (replicate c.loop-t.invariant.0 c.args.t) (g.S.Viewed.view c.args.store.now) (g.S.Viewed.view c.loop-t.store) (map worker_rest c.args.workers.now) (map worker_rest c.loop-t.workers) c.loop-t.invariant.1 c.requires.stand

pub returns-then-not-take_turn-clause-went : goal.returns-then-not-take_turn-clause-went
returns-then-not-take_turn-clause-went g c = (c.loop-t.invariant.0 + 1, Went-again c.loop-t.invariant.0 c.args.t (g.S.Viewed.view c.args.store.now) (g.S.Viewed.view c.loop-t.store) (g.S.Viewed.view c.take_turn.new.store) (map worker_rest c.args.workers.now) (map worker_rest c.loop-t.workers) (map worker_rest c.take_turn.new.workers) c.take_turn.result c.loop-t.invariant.1 c.take_turn.ensures.took)

pub loop-t-smaller : goal.loop-t-smaller
loop-t-smaller g c = c.if-not-take_turn.ensures.falls refl

pub loop-t-preserved : goal.loop-t-preserved
loop-t-preserved g c = (c.loop-t.invariant.0 + 1, Went-again c.loop-t.invariant.0 c.args.t (g.S.Viewed.view c.args.store.now) (g.S.Viewed.view c.loop-t.store) (g.S.Viewed.view c.take_turn.new.store) (map worker_rest c.args.workers.now) (map worker_rest c.loop-t.workers) (map worker_rest c.take_turn.new.workers) c.take_turn.result c.loop-t.invariant.1 c.take_turn.ensures.took)
