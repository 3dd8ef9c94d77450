use Rattle.std.proofs.Common.{inl, ◌∙◌, subst}
use Rattle.mirror.specs.Programs.{Answer, unless_differs, fits_there}
use Rattle.mirror.specs.inside.Working.{Lands, work_of, object_key, object_bytes, behind_object, mirror_rest}
use Rattle.mirror.proofs.Answering.{refused-so}
use Rattle.mirror.proofs.Taking.{was-fine, was-other}
use Rattle.mirror.proofs.mirror.Mirror.after_same.Goals as goal

pub returns-in-Ok-true-clause-lands : goal.returns-in-Ok-true-clause-lands
returns-in-Ok-true-clause-lands c =
    let m = c.args.self.now in
    let key = object_key c.args.object m in
    let fine = was-fine (work_of m) key (behind_object c.args.object m) (fits_there key (object_bytes c.args.object m) c.args.there.now) (rw c.in-Ok-true.field-0-test at c.in-Ok-true.ensures.told) in
    subst (λ (p : Answer). Lands m.register.refs p (mirror_rest c.after_object.new.self)) fine c.after_object.ensures.lands

pub returns-in-Ok-false-clause-lands : goal.returns-in-Ok-false-clause-lands
returns-in-Ok-false-clause-lands c =
    let m = c.args.self.now in
    let key = object_key c.args.object m in
    inl (rw (c.refuse.ensures, c.key_of.ensures) (was-other (work_of m) key (behind_object c.args.object m) (fits_there key (object_bytes c.args.object m) c.args.there.now) (rw c.in-Ok-false.field-0-test at c.in-Ok-false.ensures.told)))

pub returns-in-Err-clause-lands : goal.returns-in-Err-clause-lands
returns-in-Err-clause-lands c =
    let m = c.args.self.now in
    let key = object_key c.args.object m in
    rw c.refuse-in-Err.ensures (refused-so (work_of m) (unless_differs key (work_of m) (behind_object c.args.object m)) (fits_there key (object_bytes c.args.object m) c.args.there.now) c.in-Err.why c.in-Err.ensures.told)

pub returns-in-Ok-true-clause-sure : goal.returns-in-Ok-true-clause-sure
returns-in-Ok-true-clause-sure c = λ n.
    let m = c.args.self.now in
    let key = object_key c.args.object m in
    c.after_object.ensures.sure n ∙ was-fine (work_of m) key (behind_object c.args.object m) (fits_there key (object_bytes c.args.object m) c.args.there.now) (rw c.in-Ok-true.field-0-test at c.in-Ok-true.ensures.told)

pub returns-in-Ok-false-clause-sure : goal.returns-in-Ok-false-clause-sure
returns-in-Ok-false-clause-sure c = λ n.
    let m = c.args.self.now in
    let key = object_key c.args.object m in
    rw (c.refuse.ensures, c.key_of.ensures) (was-other (work_of m) key (behind_object c.args.object m) (fits_there key (object_bytes c.args.object m) c.args.there.now) (rw c.in-Ok-false.field-0-test at c.in-Ok-false.ensures.told))

pub returns-in-Err-clause-sure : goal.returns-in-Err-clause-sure
returns-in-Err-clause-sure c = λ n. absurd (n c.in-Err.ensures.sure)
