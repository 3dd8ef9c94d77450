use Rattle.std.proofs.Common.{inl}
use Rattle.commit_path.specs.Committing.{session_in, message_in, commit_program, commit_rest}
use Rattle.play_tasks.proofs.Calm.{commit-calm}
use Rattle.play_tasks.proofs.Locals.{well_refused}
use Rattle.play_tasks.proofs.Machines.{calm-why, commit-began, commit-refused}
use Rattle.play_tasks.proofs.commits.begin_commit.Goals as goal

pub returns-in-Ok-clause-comes : goal.returns-in-Ok-clause-comes
returns-in-Ok-clause-comes c = λ task.
    let commit = c.in-Ok.commit in
    let starts = c.in-Ok.ensures.starts in
    inl (commit-began c.args.tries.left c.args.tries.policy c.args.line c.args.shown c.args.message (message_in commit) c.args.session (session_in commit) (commit_rest commit) starts.0 starts.1 starts.2 c.in-Ok.ensures.message)

pub returns-in-Err-clause-comes : goal.returns-in-Err-clause-comes
returns-in-Err-clause-comes c = λ task. commit-refused c.args.tries.left c.args.tries.policy c.args.line c.args.shown c.args.message c.args.session c.in-Err.why task c.stop.result c.in-Err.ensures.listed c.in-Err.ensures.starts.1 c.stop.ensures

pub returns-in-Err-clause-clean : goal.returns-in-Err-clause-clean
returns-in-Err-clause-clean c =
    well_refused c.stop.result c.args.line c.args.shown c.in-Err.why c.stop.ensures
    (calm-why (commit_program c.args.session c.args.message) c.in-Err.why (commit-calm c.args.session c.args.message) c.in-Err.ensures.starts.1)
