use Rattle.std.proofs.Common.{inr}
use Rattle.intact.specs.Told.{found_ref}
use Rattle.repo_check.specs.Plays.{roots_with, told_ref, walks}
use Rattle.repo_check.specs.inside.Working.{checking_rest, checking_left}
use Rattle.repo_check.proofs.Answering.{entered, tags-entered, starved-same}
use Rattle.repo_check.proofs.course.Course.on_tag.Goals as goal

pub returns-in-Ok-clause-comes : goal.returns-in-Ok-clause-comes
returns-in-Ok-clause-comes c =
    let seen = found_ref c.args.got in
    entered walks c.args.self.now c.take_ref.new.self (roots_with c.args.self.now.roots seen) (told_ref c.args.key seen c.args.self.now.work) (checking_rest c.next_tag.result c.next_tag.new.self)
    c.in-Ok.ensures.ok c.next_tag.ensures.comes

pub returns-in-Ok-clause-falls : goal.returns-in-Ok-clause-falls
returns-in-Ok-clause-falls c =
    let seen = found_ref c.args.got in
    tags-entered c.args.self.now c.take_ref.new.self seen (told_ref c.args.key seen c.args.self.now.work) (checking_left c.next_tag.result c.next_tag.new.self) c.in-Ok.ensures.ok c.next_tag.ensures.falls

pub returns-in-Err-clause-comes : goal.returns-in-Err-clause-comes
returns-in-Err-clause-comes c = inr (starved-same c.take_ref.new.self.work c.args.self.now.work c.in-Err.ensures.err)
