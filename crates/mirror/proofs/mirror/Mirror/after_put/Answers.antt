use Rattle.std.proofs.Common.{inl, ◌∙◌, ap, subst}
use Rattle.mirror_reports.specs.declared.outcome.Mirrored.{Mirrored}
use Rattle.mirror.specs.Programs.{Answer}
use Rattle.mirror.specs.inside.Working.{Lands, work_of, behind_object, mirror_rest}
use Rattle.mirror.proofs.Taking.{behind-counted}
use Rattle.mirror.proofs.mirror.Mirror.after_put.Goals as goal

pub returns-in-Some-clause-lands : goal.returns-in-Some-clause-lands
returns-in-Some-clause-lands c =
    let m = c.args.self.now in
    let counts = ap (λ (k : Mirrored). behind_object c.args.object m (record (work_of m) { counts = k })) (c.in-Some.ensures.some m) in
    subst (λ (p : Answer). Lands m.register.refs p (mirror_rest c.after_object.new.self)) (behind-counted c.args.object m c.in-Some.counts ∙ counts) c.after_object.ensures.lands

pub returns-in-Some-clause-sure : goal.returns-in-Some-clause-sure
returns-in-Some-clause-sure c = λ n.
    let m = c.args.self.now in
    let counts = ap (λ (k : Mirrored). behind_object c.args.object m (record (work_of m) { counts = k })) (c.in-Some.ensures.some m) in
    inl (c.after_object.ensures.sure n ∙ (behind-counted c.args.object m c.in-Some.counts ∙ counts))
