use Rattle.std.proofs.Common.{refl, sym, ◌∙◌}
use Rattle.repo_check.specs.inside.Working.{checking_rest}
use Rattle.repo_check.proofs.Answering.{log-none, log-asked}
use Rattle.repo_check.proofs.course.Course.read_on.Goals as goal

pub returns-then-is_initial-clause-comes : goal.returns-then-is_initial-clause-comes
returns-then-is_initial-clause-comes c =
    let s = c.args.self.now in
    log-none s.left s.roots c.args.id c.args.loaded c.new-place.result s.work (checking_rest c.next_file.result c.next_file.new.self) c.new-place.ensures.files c.new-place.ensures.parent
    (sym c.is_initial.ensures ∙ c.if-is_initial.true) c.next_file.ensures.comes

pub returns-clause-comes : goal.returns-clause-comes
returns-clause-comes c =
    let s = c.args.self.now in
    log-asked s.left s.roots c.args.id c.args.loaded c.new-place.result s.work _ c.new-place.ensures.files c.new-place.ensures.parent
    (sym c.is_initial.ensures ∙ c.if-is_initial.false) refl
