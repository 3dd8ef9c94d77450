use Rattle.std.proofs.Common.{refl}
use Rattle.repo_check.specs.inside.Working.{files_rest}
use Rattle.repo_check.proofs.Stepping.{parts-end, parts-more}
use Rattle.repo_check.proofs.course.Course.next_part.Goals as goal

pub returns-in-Some-clause-comes : goal.returns-in-Some-clause-comes
returns-in-Some-clause-comes c = rw (parts-more c.in-Some.visit c.args.parts c.take_part.new.place c.args.self.now.work (files_rest c.args.self.now.left c.args.self.now.roots c.args.place) c.in-Some.ensures.0) refl

pub returns-in-None-clause-comes : goal.returns-in-None-clause-comes
returns-in-None-clause-comes c = rw (parts-end c.args.parts c.args.self.now.work (files_rest c.args.self.now.left c.args.self.now.roots c.args.place) c.in-None.ensures) c.next_file.ensures.comes
