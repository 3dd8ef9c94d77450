use Rattle.std.proofs.Common.{ap}
use Rattle.store_api.specs.Program.{is_fault}
use Rattle.commit_path.specs.Committing.{session_in}
use Rattle.play_tasks.proofs.Machines.{doubt-so, stop-so, stop-blames}
use Rattle.play_tasks.proofs.commits.after_refusal.Goals as goal

pub returns-in-InDoubt-clause-goes : goal.returns-in-InDoubt-clause-goes
returns-in-InDoubt-clause-goes c = λ task. doubt-so c.args.line c.args.shown (session_in c.args.commit) c.args.why c.in-InDoubt.snapshot task c.begin_settling.result c.in-InDoubt.is (c.begin_settling.ensures.rest task)

pub returns-in-InDoubt-clause-blames : goal.returns-in-InDoubt-clause-blames
returns-in-InDoubt-clause-blames c = λ task doomed. ap is_fault c.in-InDoubt.is

pub returns-in_default-clause-goes : goal.returns-in_default-clause-goes
returns-in_default-clause-goes c = λ task. stop-so c.args.line c.args.shown (session_in c.args.commit) c.args.why task c.stop.result c.in_default.not-InDoubt c.stop.ensures

pub returns-in_default-clause-blames : goal.returns-in_default-clause-blames
returns-in_default-clause-blames c = λ task doomed. stop-blames c.args.line c.args.shown c.args.why task c.stop.result c.stop.ensures doomed
