use Rattle.std.proofs.Common.{◌≡◌, List, ap, sym, subst, ◌∙◌}
use Rattle.check_reports.specs.declared.faults.CheckFault.{CheckFault}
use Rattle.repo_check.specs.Works.{Work, tell, with_fault}
use Rattle.repo_check.specs.inside.Telling.{AreTold}
use Rattle.repo_check.proofs.Telling.{told-faults}
use Rattle.repo_check.proofs.work.Work.tell.Goals as goal

pub returns-in-Ok-clause-ok : goal.returns-in-Ok-clause-ok
returns-in-Ok-clause-ok c =
    let s = c.self.inside in
    let noted = c.in-Ok.ensures.ok c.args.kind s.faults.items c.self.invariant in
    let faults : c.push_new.new.faults.items ≡ with_fault c.args.key c.args.kind s.faults.items = told-faults c.args.key c.args.kind s.faults.items c.make_room.new.faults.items c.push_new.new.faults.items c.in-Ok.new c.make_room.ensures.faults c.push_new.ensures noted.is in
    let filled : List CheckFault → Work = λ (fs : List CheckFault). record { met = s.met; walk = s.walk; files = s.files.keys; parts = s.parts.keys; objects = s.objects; faults = fs } in
    ap filled faults ∙ ap (λ (w : Work). tell c.args.key c.args.kind w) c.self.view_is

pub invariant_of-self : goal.invariant_of-self
invariant_of-self c =
    let s = c.self.inside in
    let noted = c.in-Ok.ensures.ok c.args.kind s.faults.items c.self.invariant in
    let faults : c.push_new.new.faults.items ≡ with_fault c.args.key c.args.kind s.faults.items = told-faults c.args.key c.args.kind s.faults.items c.make_room.new.faults.items c.push_new.new.faults.items c.in-Ok.new c.make_room.ensures.faults c.push_new.ensures noted.is in
    subst (λ (fs : List CheckFault). AreTold c.make_room.new.files c.make_room.new.objects fs) (sym faults) noted.told
