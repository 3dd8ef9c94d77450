use Rattle.std.proofs.Common.{List, sym, subst, map, take, get_or}
use Rattle.std.proofs.lemmas.List.{take_more}
use Rattle.play_script.specs.declared.scripts.Turn.{Turn}
use Rattle.play_tasks.specs.Workers.{worker_rest}
use Rattle.play_run.specs.Order.{places_of}
use Rattle.play_run.specs.inside.Going.{Went}
use Rattle.play_run.proofs.Turning.{Went-none, CanGo-went}
use Rattle.play_run.proofs.Rounds.{Went-places}
use Rattle.play_run.proofs.run.run_turns.Goals as goal

pub loop-turn-init : goal.loop-turn-init
loop-turn-init g c = Went-none (g.S.Viewed.view c.args.store.now) (map worker_rest c.args.workers.now)

pub take_turns-requires-clause-stand : goal.take_turns-requires-clause-stand
take_turns-requires-clause-stand g c = CanGo-went (places_of (take c.loop-turn.turn-index c.args.turns.now)) (g.S.Viewed.view c.args.store.now) (g.S.Viewed.view c.loop-turn.store) (map worker_rest c.args.workers.now) (map worker_rest c.loop-turn.workers) c.loop-turn.invariant c.requires.stand

pub loop-turn-preserved : goal.loop-turn-preserved
loop-turn-preserved g c =
    let none : Turn = record { client = 0; count = 0 } in
    let x = get_or c.args.turns.now c.loop-turn.turn-index none in
    subst (λ (turns : List Turn). Went (places_of turns) (g.S.Viewed.view c.args.store.now) (g.S.Viewed.view c.take_turns.new.store) (map worker_rest c.args.workers.now) (map worker_rest c.take_turns.new.workers)) (sym (take_more c.args.turns.now c.loop-turn.turn-index none c.loop-turn-test.true))
    (Went-places (take c.loop-turn.turn-index c.args.turns.now) x (g.S.Viewed.view c.args.store.now) (g.S.Viewed.view c.loop-turn.store) (g.S.Viewed.view c.take_turns.new.store) (map worker_rest c.args.workers.now) (map worker_rest c.loop-turn.workers) (map worker_rest c.take_turns.new.workers) c.loop-turn.invariant c.take_turns.ensures.went)
