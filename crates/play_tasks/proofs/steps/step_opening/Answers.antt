use Rattle.session.specs.Opening.{open_rest}
use Rattle.play_tasks.specs.Playing.{after_open}
use Rattle.play_tasks.specs.inside.Working.{working_rest}
use Rattle.play_outcome.proofs.Stepping.{acts}
use Rattle.play_tasks.proofs.steps.step_opening.Goals as goal

pub returns-clause-acts : goal.returns-clause-acts
returns-clause-acts g c =
    let task = c.args.task.now in
    let old = g.S.Viewed.view c.args.store.now in
    let new = g.S.Viewed.view c.step-answer.new.store in
    acts (after_open task.access.now task.line task.body.now) (working_rest task c.after_opening.result) old new (open_rest c.args.opener) (open_rest c.step-answer.new.self) c.step-answer.result c.requires.live c.step-answer.ensures.step c.after_opening.ensures.comes c.after_opening.ensures.blames
