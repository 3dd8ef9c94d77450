use Rattle.std.proofs.Common.{refl}
use Rattle.repo_check.specs.Plays.{walks}
use Rattle.repo_check.proofs.Stepping.{refs-end, refs-more}
use Rattle.repo_check.proofs.course.Course.next_tag.Goals as goal

pub returns-in-None-clause-comes : goal.returns-in-None-clause-comes
returns-in-None-clause-comes c = rw (refs-end c.args.self.now.names c.args.self.now.roots c.args.self.now.work walks c.in-None.ensures.0) c.next_root.ensures.comes

pub returns-in-Some-clause-comes : goal.returns-in-Some-clause-comes
returns-in-Some-clause-comes c = rw (refs-more c.in-Some.key c.args.self.now.names c.take.new.self c.args.self.now.roots c.args.self.now.work walks c.in-Some.ensures) refl
