use Rattle.settle.specs.inside.Working.{settle_rest}
use Rattle.play_tasks.specs.Playing.{after_settling}
use Rattle.play_tasks.specs.inside.Working.{working_rest}
use Rattle.play_outcome.proofs.Stepping.{acts-doomed}
use Rattle.play_tasks.proofs.Doubting.{doubt-doomed}
use Rattle.play_tasks.proofs.doubts.step_settling.Goals as goal

pub returns-clause-acts : goal.returns-clause-acts
returns-clause-acts g c =
    let task = c.args.task.now in
    let shown = c.args.shown in
    let id = c.args.id in
    let old = g.S.Viewed.view c.args.store.now in
    let new = g.S.Viewed.view c.step-answer.new.store in
    acts-doomed (after_settling shown id) (working_rest task c.after_step.result) old new (settle_rest c.args.settle) (settle_rest c.step-answer.new.self) c.step-answer.result c.requires c.step-answer.ensures.step (c.after_step.ensures.comes task) (doubt-doomed shown id (settle_rest c.args.settle) c.requires)
