use Rattle.std.proofs.Common.{inl, List, ◌∙◌, ap}
use Rattle.mirror.specs.declared.lines.Link.{Link}
use Rattle.mirror.specs.Programs.{copy_line, down}
use Rattle.mirror.specs.inside.Working.{work_of, behind_line}
use Rattle.mirror.proofs.Landing.{down-ends, down-on}
use Rattle.mirror.proofs.mirror.Mirror.after_down.Goals as goal

pub returns-in-None-clause-lands : goal.returns-in-None-clause-lands
returns-in-None-clause-lands c =
    let m = c.args.self.now in
    inl (c.next_link.ensures.lands ∙ (ap (λ (links : List Link). copy_line links (work_of m) (behind_line m)) c.in-Ok.ensures.ok ∙ down-ends m c.args.id c.args.parent c.in-None.is))

pub returns-in-Some-clause-lands : goal.returns-in-Some-clause-lands
returns-in-Some-clause-lands c =
    let m = c.args.self.now in
    inl (c.down.ensures.lands ∙ (ap (λ (links : List Link). down m.left links (work_of m) (behind_line m) c.in-Some.parent) c.in-Ok.ensures.ok ∙ down-on m c.args.id c.args.parent c.in-Some.parent c.in-Some.is))
