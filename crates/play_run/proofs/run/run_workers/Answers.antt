use Rattle.std.proofs.Common.{map}
use Rattle.play_tasks.specs.Workers.{worker_rest}
use Rattle.play_run.specs.Order.{places_of, turns_of}
use Rattle.play_run.proofs.Turning.{CanGo-went, Went-trans}
use Rattle.play_run.proofs.run.run_workers.Goals as goal

pub run_to_ends-requires-clause-stand : goal.run_to_ends-requires-clause-stand
run_to_ends-requires-clause-stand g c = CanGo-went (places_of c.args.turns.now) (g.S.Viewed.view c.args.store.now) (g.S.Viewed.view c.run_turns.new.store) (map worker_rest c.args.workers.now) (map worker_rest c.run_turns.new.workers) c.run_turns.ensures.went c.requires.stand

pub returns-clause-went : goal.returns-clause-went
returns-clause-went g c = (c.run_to_ends.ensures.went.0, Went-trans (places_of c.args.turns.now) (turns_of 0 c.run_to_ends.ensures.went.0) (g.S.Viewed.view c.args.store.now) (g.S.Viewed.view c.run_turns.new.store) (g.S.Viewed.view c.run_to_ends.new.store) (map worker_rest c.args.workers.now) (map worker_rest c.run_turns.new.workers) (map worker_rest c.run_to_ends.new.workers) c.run_turns.ensures.went c.run_to_ends.ensures.went.1)
