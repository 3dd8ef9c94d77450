use Rattle.std.proofs.Common.{◌≡◌, Option, refl, ap, sym, ◌∙◌}
use Rattle.repo_check.specs.inside.Working.{parent_rest}
use Rattle.repo_check.proofs.Stepping.{files-end, files-more}
use Rattle.repo_check.proofs.course.Course.next_file.Goals as goal

pub returns-in-Some-clause-comes : goal.returns-in-Some-clause-comes
returns-in-Some-clause-comes c =
    rw (files-more c.in-Some.visit c.args.place.files c.take_file.new.place.files c.args.self.now.work (parent_rest c.args.self.now.left c.args.self.now.roots c.args.place.parent) c.in-Some.ensures.0, sym c.in-Some.ensures.1) refl

pub returns-in-None-clause-comes : goal.returns-in-None-clause-comes
returns-in-None-clause-comes c =
    rw (files-end c.args.place.files c.args.self.now.work (parent_rest c.args.self.now.left c.args.self.now.roots c.args.place.parent) c.in-None.ensures.0, sym c.in-None.ensures.1, sym c.parent-parent.ensures) c.next_parent.ensures.comes
