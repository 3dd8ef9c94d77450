use Rattle.refs_admin.specs.inside.Working.{log_rest}
use Rattle.play_refs.specs.inside.Working.{after_reading, lines_from, working_rest}
use Rattle.play_outcome.proofs.Stepping.{acts-reads}
use Rattle.play_refs.proofs.Reading.{log-reads}
use Rattle.play_refs.proofs.steps.step_reading.Goals as goal

pub returns-clause-acts : goal.returns-clause-acts
returns-clause-acts g c =
    let body = c.args.body.now in
    let old = g.S.Viewed.view c.args.store.now in
    let new = g.S.Viewed.view c.step-answer.new.store in
    acts-reads (after_reading c.args.line c.args.shown.items (lines_from body c.args.at)) (working_rest body c.after_reading.result) old new (log_rest c.args.log) (log_rest c.step-answer.new.self) c.step-answer.result (log-reads c.args.log) c.requires.live c.step-answer.ensures.step c.after_reading.ensures.comes c.after_reading.ensures.blames
