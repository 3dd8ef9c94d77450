use Rattle.std.proofs.Common.{refl, sym}
use Rattle.object_store.specs.declared.events.Op.TheVariants.{Get}
use Rattle.two_stores.specs.declared.side.Side.TheVariants.{To}
use Rattle.mirror_reports.specs.Told.{bytes_told}
use Rattle.mirror.specs.Programs.{on_told, unless_differs, fits_there}
use Rattle.mirror.specs.inside.Working.{work_of, object_key, object_bytes, behind_object, behind_same}
use Rattle.mirror.proofs.Answering.{went, was-refused, ends-so, goes-on, told-next, told-refused}
use Rattle.mirror.proofs.mirror.Mirror.on_same.Goals as goal

pub returns-in-Ok-clause-took : goal.returns-in-Ok-clause-took
returns-in-Ok-clause-took c =
    let m = c.args.self.now in
    let key = object_key c.args.object m in
    went (work_of m) To (Get key) (bytes_told To key) (λ there. on_told (work_of m) (unless_differs key (work_of m) (behind_object c.args.object m)) (fits_there key (object_bytes c.args.object m) there)) c.args.reply c.in-Ok.there _ (λ a b. (refl, refl)) refl (sym (rw c.key_of.ensures at c.in-Ok.ensures)) c.after_same.ensures.lands

pub returns-in-Err-clause-took : goal.returns-in-Err-clause-took
returns-in-Err-clause-took c =
    let m = c.args.self.now in
    let key = object_key c.args.object m in
    was-refused (work_of m) To (Get key) (bytes_told To key) (λ there. on_told (work_of m) (unless_differs key (work_of m) (behind_object c.args.object m)) (fits_there key (object_bytes c.args.object m) there)) c.args.reply c.in-Err.why _ (λ a b. (refl, refl)) (sym (rw c.key_of.ensures at c.in-Err.ensures)) (rw c.refuse.ensures refl)

pub returns-in-Ok-clause-outright : goal.returns-in-Ok-clause-outright
returns-in-Ok-clause-outright c =
    let m = c.args.self.now in
    goes-on (work_of m) (bytes_told To (object_key c.args.object m) c.args.reply) c.in-Ok.there _ (sym (rw c.key_of.ensures at c.in-Ok.ensures))

pub returns-in-Err-clause-outright : goal.returns-in-Err-clause-outright
returns-in-Err-clause-outright c =
    let m = c.args.self.now in
    ends-so (work_of m) (bytes_told To (object_key c.args.object m) c.args.reply) c.in-Err.why _ (sym (rw c.key_of.ensures at c.in-Err.ensures)) (rw c.refuse.ensures refl)

pub returns-in-Ok-clause-sure : goal.returns-in-Ok-clause-sure
returns-in-Ok-clause-sure c = λ n.
    let m = c.args.self.now in
    told-next (work_of m) (behind_same c.args.object m (work_of m)) (bytes_told To (object_key c.args.object m) c.args.reply) c.in-Ok.there _ (sym (rw c.key_of.ensures at c.in-Ok.ensures)) (c.after_same.ensures.sure n)

pub returns-in-Err-clause-sure : goal.returns-in-Err-clause-sure
returns-in-Err-clause-sure c = λ n.
    let m = c.args.self.now in
    told-refused (work_of m) (behind_same c.args.object m (work_of m)) (bytes_told To (object_key c.args.object m) c.args.reply) c.in-Err.why _ (sym (rw c.key_of.ensures at c.in-Err.ensures)) (rw c.refuse.ensures refl)
