use Rattle.std.proofs.Common.{[], refl, map, arith}
use Rattle.play_tasks.specs.Workers.{worker_rest}
use Rattle.play_run.specs.Order.{turns_of}
use Rattle.play_run.proofs.Turning.{Went-none, CanGo-went}
use Rattle.play_run.proofs.Rounds.{Went-worker, Below-more}
use Rattle.play_run.proofs.run.run_to_ends.Goals as goal

pub loop-t-init : goal.loop-t-init
loop-t-init g c = (([], refl, Went-none (g.S.Viewed.view c.args.store.now) (map worker_rest c.args.workers.now)), λ k less. absurd (omega (arith, less)))

pub run_to_end-requires-clause-stand : goal.run_to_end-requires-clause-stand
run_to_end-requires-clause-stand g c = CanGo-went (turns_of 0 c.loop-t.invariant.0.0) (g.S.Viewed.view c.args.store.now) (g.S.Viewed.view c.loop-t.store) (map worker_rest c.args.workers.now) (map worker_rest c.loop-t.workers) c.loop-t.invariant.0.2 c.requires.stand

pub loop-t-preserved : goal.loop-t-preserved
loop-t-preserved g c = (
  Went-worker c.loop-t.t (g.S.Viewed.view c.args.store.now) (g.S.Viewed.view c.loop-t.store) (g.S.Viewed.view c.run_to_end.new.store) (map worker_rest c.args.workers.now) (map worker_rest c.loop-t.workers) (map worker_rest c.run_to_end.new.workers) c.loop-t.invariant.0 c.run_to_end.ensures.went,
  Below-more c.loop-t.t (map worker_rest c.loop-t.workers) (map worker_rest c.run_to_end.new.workers) c.run_to_end.ensures.went.1.others c.loop-t.invariant.1 c.run_to_end.ensures.ended,
)
