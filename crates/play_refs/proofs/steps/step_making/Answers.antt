use Rattle.play_refs.specs.inside.Working.{maker_rest, after_making, lines_from, working_rest}
use Rattle.play_outcome.proofs.Stepping.{acts}
use Rattle.play_refs.proofs.steps.step_making.Goals as goal

pub returns-clause-acts : goal.returns-clause-acts
returns-clause-acts g c =
    let body = c.args.body.now in
    let old = g.S.Viewed.view c.args.store.now in
    let new = g.S.Viewed.view c.step-answer.new.store in
    acts (after_making c.args.line c.args.shown.items (lines_from body c.args.at)) (working_rest body c.after_making.result) old new (maker_rest c.args.maker) (maker_rest c.step-answer.new.self) c.step-answer.result c.requires.live c.step-answer.ensures.step c.after_making.ensures.comes c.after_making.ensures.blames
