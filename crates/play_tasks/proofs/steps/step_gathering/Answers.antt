use Rattle.std.proofs.Common.{subst}
use Rattle.session.specs.Sessions.{SessionState}
use Rattle.array_region.specs.Getting.{region_rest, region_session}
use Rattle.play_tasks.specs.Lines.{cells_shown}
use Rattle.play_outcome.specs.Settling.{ComesOrStarves}
use Rattle.play_tasks.specs.inside.Working.{lines_from, after_get, working_rest}
use Rattle.play_outcome.proofs.Stepping.{acts-reads}
use Rattle.play_tasks.proofs.Stepping.{gather-reads}
use Rattle.play_tasks.proofs.steps.step_gathering.Goals as goal

pub returns-clause-acts : goal.returns-clause-acts
returns-clause-acts g c =
    let task = c.args.task.now in
    let old = g.S.Viewed.view c.args.store.now in
    let new = g.S.Viewed.view c.step-answer.new.store in
    acts-reads (after_get (cells_shown c.args.line) c.args.line c.args.shown.items (region_session c.args.get) (lines_from task c.args.at)) (working_rest task c.after_gathering.result) old new (region_rest c.args.get) (region_rest c.step-answer.new.self) c.step-answer.result (gather-reads c.args.get) c.requires.live c.step-answer.ensures.step (subst (λ (s : SessionState). ComesOrStarves (after_get (cells_shown c.args.line) c.args.line c.args.shown.items s (lines_from task c.args.at)) (region_rest c.step-answer.new.self) c.step-answer.result (working_rest task c.after_gathering.result)) c.step-answer.ensures.session c.after_gathering.ensures.comes) c.after_gathering.ensures.blames
