use Rattle.std.proofs.Common.{true, false, inl, refl, sym}
use Rattle.object_store.specs.declared.events.Op.TheVariants.{PutNew}
use Rattle.two_stores.specs.declared.side.Side.TheVariants.{To}
use Rattle.mirror_reports.specs.Told.{put_told}
use Rattle.mirror.specs.Programs.{cause_of, put_behind}
use Rattle.mirror.specs.inside.Working.{work_of, object_key, object_bytes, behind_object}
use Rattle.mirror.proofs.Answering.{object-still, went, was-refused, ends-so, goes-on}
use Rattle.mirror.proofs.Staging.{same-next}
use Rattle.mirror.proofs.mirror.Mirror.on_put.Goals as goal

pub returns-in-Ok-true-clause-took : goal.returns-in-Ok-true-clause-took
returns-in-Ok-true-clause-took c =
    let m = c.args.self.now in
    let key = object_key c.args.object m in
    let bytes = object_bytes c.args.object m in
    went (work_of m) To (PutNew key bytes (cause_of key)) put_told (put_behind key bytes (work_of m) (behind_object c.args.object m)) c.args.reply true _ (λ a b. (refl, refl)) (object-still c.args.object m) (sym (rw c.in-Ok-true.field-0-test at c.in-Ok-true.ensures)) c.after_put.ensures.lands

pub returns-in-Ok-false-clause-took : goal.returns-in-Ok-false-clause-took
returns-in-Ok-false-clause-took c =
    let m = c.args.self.now in
    let key = object_key c.args.object m in
    let bytes = object_bytes c.args.object m in
    went (work_of m) To (PutNew key bytes (cause_of key)) put_told (put_behind key bytes (work_of m) (behind_object c.args.object m)) c.args.reply false _ (λ a b. (refl, refl)) (object-still c.args.object m) (sym (rw c.in-Ok-false.field-0-test at c.in-Ok-false.ensures)) (inl (same-next c.args.object m))

pub returns-in-Err-clause-took : goal.returns-in-Err-clause-took
returns-in-Err-clause-took c =
    let m = c.args.self.now in
    let key = object_key c.args.object m in
    let bytes = object_bytes c.args.object m in
    was-refused (work_of m) To (PutNew key bytes (cause_of key)) put_told (put_behind key bytes (work_of m) (behind_object c.args.object m)) c.args.reply c.in-Err.why _ (λ a b. (refl, refl)) (sym c.in-Err.ensures) (rw c.refuse.ensures refl)

pub returns-in-Ok-true-clause-outright : goal.returns-in-Ok-true-clause-outright
returns-in-Ok-true-clause-outright c = goes-on (work_of c.args.self.now) (put_told c.args.reply) true _ (sym (rw c.in-Ok-true.field-0-test at c.in-Ok-true.ensures))

pub returns-in-Ok-false-clause-outright : goal.returns-in-Ok-false-clause-outright
returns-in-Ok-false-clause-outright c = goes-on (work_of c.args.self.now) (put_told c.args.reply) false _ (sym (rw c.in-Ok-false.field-0-test at c.in-Ok-false.ensures))

pub returns-in-Err-clause-outright : goal.returns-in-Err-clause-outright
returns-in-Err-clause-outright c = ends-so (work_of c.args.self.now) (put_told c.args.reply) c.in-Err.why _ (sym c.in-Err.ensures) (rw c.refuse.ensures refl)

pub returns-in-Ok-true-clause-there : goal.returns-in-Ok-true-clause-there
returns-in-Ok-true-clause-there c = λ e. let done = rw c.in-Ok-true.field-0-test at c.in-Ok-true.ensures in absurd (cc)

pub returns-in-Ok-false-clause-there : goal.returns-in-Ok-false-clause-there
returns-in-Ok-false-clause-there c = λ e. same-next c.args.object c.args.self.now

pub returns-in-Err-clause-there : goal.returns-in-Err-clause-there
returns-in-Err-clause-there c = λ e. let failed = c.in-Err.ensures in absurd (cc)
