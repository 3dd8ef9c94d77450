use Rattle.std.proofs.Common.{subst}
use Rattle.session.specs.Sessions.{SessionState}
use Rattle.session.specs.Getting.{get_rest, get_session}
use Rattle.play_outcome.specs.Settling.{ComesOrStarves}
use Rattle.play_tasks.specs.inside.Working.{lines_from, shown_for, after_get, working_rest}
use Rattle.play_outcome.proofs.Stepping.{acts-reads}
use Rattle.play_tasks.proofs.Stepping.{get-reads}
use Rattle.play_tasks.proofs.steps.step_getting.Goals as goal

pub returns-clause-acts : goal.returns-clause-acts
returns-clause-acts g c =
    let task = c.args.task.now in
    let old = g.S.Viewed.view c.args.store.now in
    let new = g.S.Viewed.view c.step-answer.new.store in
    acts-reads (after_get (shown_for c.args.asked c.args.line) c.args.line c.args.shown.items (get_session c.args.get) (lines_from task c.args.at)) (working_rest task c.after_getting.result) old new (get_rest c.args.get) (get_rest c.step-answer.new.self) c.step-answer.result (get-reads c.args.get) c.requires.live c.step-answer.ensures.step (subst (λ (s : SessionState). ComesOrStarves (after_get (shown_for c.args.asked c.args.line) c.args.line c.args.shown.items s (lines_from task c.args.at)) (get_rest c.step-answer.new.self) c.step-answer.result (working_rest task c.after_getting.result)) c.step-answer.ensures.session c.after_getting.ensures.comes) c.after_getting.ensures.blames
