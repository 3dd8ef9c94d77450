use Rattle.std.proofs.Common.{inr}
use Rattle.intact.specs.Told.{found_log}
use Rattle.repo_check.specs.Plays.{told_log}
use Rattle.repo_check.specs.Works.{Work}
use Rattle.repo_check.specs.inside.Working.{files_rest, checking_rest}
use Rattle.repo_check.proofs.Answering.{worked, starved-same}
use Rattle.repo_check.proofs.course.Course.on_log.Goals as goal

pub returns-in-Ok-clause-comes : goal.returns-in-Ok-clause-comes
returns-in-Ok-clause-comes c =
    worked (λ (w : Work). files_rest c.args.self.now.left c.args.self.now.roots c.args.place w) (told_log c.args.id (found_log c.args.id c.args.got) c.args.self.now.work) c.take_log.new.self c.args.self.now.work (checking_rest c.next_file.result c.next_file.new.self) c.in-Ok.ensures.ok c.next_file.ensures.comes

pub returns-in-Err-clause-comes : goal.returns-in-Err-clause-comes
returns-in-Err-clause-comes c = inr (starved-same c.take_log.new.self c.args.self.now.work c.in-Err.ensures.err)
