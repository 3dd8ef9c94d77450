use Rattle.std.proofs.Common.{inr}
use Rattle.intact.specs.Told.{found_ref}
use Rattle.repo_check.specs.Plays.{roots_with, told_ref, then_tags}
use Rattle.repo_check.specs.inside.Working.{checking_rest, checking_left}
use Rattle.repo_check.proofs.Answering.{entered, branches-entered, starved-same}
use Rattle.repo_check.proofs.course.Course.on_branch.Goals as goal

pub returns-in-Ok-clause-comes : goal.returns-in-Ok-clause-comes
returns-in-Ok-clause-comes c =
    let seen = found_ref c.args.got in
    entered then_tags c.args.self.now c.take_ref.new.self (roots_with c.args.self.now.roots seen) (told_ref c.args.key seen c.args.self.now.work) (checking_rest c.next_branch.result c.next_branch.new.self)
    c.in-Ok.ensures.ok c.next_branch.ensures.comes

pub returns-in-Ok-clause-falls : goal.returns-in-Ok-clause-falls
returns-in-Ok-clause-falls c =
    let seen = found_ref c.args.got in
    branches-entered c.args.self.now c.take_ref.new.self seen (told_ref c.args.key seen c.args.self.now.work) (checking_left c.next_branch.result c.next_branch.new.self) c.in-Ok.ensures.ok c.next_branch.ensures.falls

pub returns-in-Err-clause-comes : goal.returns-in-Err-clause-comes
returns-in-Err-clause-comes c = inr (starved-same c.take_ref.new.self.work c.args.self.now.work c.in-Err.ensures.err)
