use Rattle.std.specs.Prelude.{Some}
use Rattle.play_course.proofs.Playing.{plays-tasks}
use Rattle.play_course.proofs.running.run_by_turns.Goals as goal

pub returns-clause-plays : goal.returns-clause-plays
returns-clause-plays g c =
    plays-tasks c.args.draw c.args.script.now c.as_slice.result.now (Some c.args.turns.now) (g.S.Viewed.view c.args.store) (g.S.Viewed.view c.run_tasks-outcomes.new.store) c.run_tasks-outcomes.result (λ w. w.items) c.as_slice.ensures c.requires.turns
    c.run_tasks-outcomes.ensures.ran c.run_tasks-outcomes.ensures.size c.run_tasks-outcomes.ensures.blames c.run_tasks-outcomes.ensures.counted c.run_tasks-outcomes.ensures.tells
