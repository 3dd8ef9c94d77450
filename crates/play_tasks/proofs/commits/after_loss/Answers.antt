use Rattle.rebase.specs.Rebasing.{rebase_rest}
use Rattle.commit_path.specs.Committing.{session_in, message_in}
use Rattle.play_tasks.proofs.Locals.{well_refused}
use Rattle.play_tasks.proofs.Machines.{lost-began, lost-refused, rebase-calm}
use Rattle.play_tasks.proofs.commits.after_loss.Goals as goal

pub returns-in-Ok-clause-comes : goal.returns-in-Ok-clause-comes
returns-in-Ok-clause-comes c = λ task.
    let tries = c.args.tries in
    let parts = c.into_parts-session in
    let starts = c.in-Ok.ensures.starts in
    lost-began tries.left tries.policy c.args.line c.args.shown (message_in c.args.commit) parts.result.1 (session_in c.args.commit) parts.result.0 c.args.old c.args.found (rebase_rest c.in-Ok.rebase) c.if-tries-eq0.false parts.ensures.session parts.ensures.message starts.0 starts.1

pub returns-in-Err-clause-comes : goal.returns-in-Err-clause-comes
returns-in-Err-clause-comes c = λ task.
    let tries = c.args.tries in
    let parts = c.into_parts-session in
    lost-refused tries.left tries.policy c.args.line c.args.shown (message_in c.args.commit) (session_in c.args.commit) parts.result.0 c.args.old c.args.found c.in-Err.why task c.stop-in-Err.result c.if-tries-eq0.false parts.ensures.session c.in-Err.ensures.starts.0 c.stop-in-Err.ensures

pub returns-in-Err-clause-clean : goal.returns-in-Err-clause-clean
returns-in-Err-clause-clean c = well_refused c.stop-in-Err.result c.args.line c.args.shown c.in-Err.why c.stop-in-Err.ensures (rebase-calm c.in-Err.why c.in-Err.ensures.listed)
