use Rattle.array_region.specs.Filling.{region_set_rest}
use Rattle.play_tasks.specs.inside.Working.{lines_from, after_set, working_rest}
use Rattle.play_outcome.proofs.Stepping.{acts}
use Rattle.play_tasks.proofs.steps.step_putting.Goals as goal

pub returns-clause-acts : goal.returns-clause-acts
returns-clause-acts g c =
    let task = c.args.task.now in
    let old = g.S.Viewed.view c.args.store.now in
    let new = g.S.Viewed.view c.step-answer.new.store in
    acts (after_set c.args.line c.args.shown.items (lines_from task c.args.at)) (working_rest task c.after_putting.result) old new (region_set_rest c.args.set) (region_set_rest c.step-answer.new.self) c.step-answer.result c.requires.live c.step-answer.ensures.step c.after_putting.ensures.comes c.after_putting.ensures.blames
