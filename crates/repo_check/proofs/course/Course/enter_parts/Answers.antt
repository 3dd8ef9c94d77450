use Rattle.std.proofs.Common.{inr}
use Rattle.repo_check.specs.Works.{Work, meet_file}
use Rattle.repo_check.specs.inside.Working.{parts_rest, checking_rest}
use Rattle.repo_check.proofs.Answering.{worked, starved-same}
use Rattle.repo_check.proofs.course.Course.enter_parts.Goals as goal

pub returns-in-Ok-clause-comes : goal.returns-in-Ok-clause-comes
returns-in-Ok-clause-comes c =
    worked (λ (w : Work). parts_rest c.args.self.now.left c.args.self.now.roots c.args.parts c.args.place w) (meet_file c.args.visit c.args.self.now.work) c.meet_file.new.self c.args.self.now.work (checking_rest c.next_part.result c.next_part.new.self) c.in-Ok.ensures.ok c.next_part.ensures.comes

pub returns-in-Err-clause-comes : goal.returns-in-Err-clause-comes
returns-in-Err-clause-comes c = inr (starved-same c.meet_file.new.self c.args.self.now.work c.in-Err.ensures.err)
