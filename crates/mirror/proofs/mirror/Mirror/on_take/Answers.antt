use Rattle.std.proofs.Common.{refl, sym}
use Rattle.object_store.specs.declared.events.Op.TheVariants.{Get}
use Rattle.two_stores.specs.declared.side.Side.TheVariants.{From}
use Rattle.mirror_reports.specs.Told.{bytes_told}
use Rattle.mirror.specs.inside.Working.{work_of, object_key, taken}
use Rattle.mirror.proofs.Answering.{went, was-refused, ends-so, goes-on}
use Rattle.mirror.proofs.mirror.Mirror.on_take.Goals as goal

pub returns-in-Ok-clause-took : goal.returns-in-Ok-clause-took
returns-in-Ok-clause-took c =
    let m = c.args.self.now in
    let key = object_key c.args.object m in
    went (work_of m) From (Get key) (bytes_told From key) (taken c.args.object m (work_of m)) c.args.reply c.in-Ok.bytes _ (λ a b. (refl, refl)) refl (sym (rw c.key_of.ensures at c.in-Ok.ensures)) c.after_take.ensures.lands

pub returns-in-Err-clause-took : goal.returns-in-Err-clause-took
returns-in-Err-clause-took c =
    let m = c.args.self.now in
    let key = object_key c.args.object m in
    was-refused (work_of m) From (Get key) (bytes_told From key) (taken c.args.object m (work_of m)) c.args.reply c.in-Err.why _ (λ a b. (refl, refl)) (sym (rw c.key_of.ensures at c.in-Err.ensures)) (rw c.refuse.ensures refl)

pub returns-in-Ok-clause-outright : goal.returns-in-Ok-clause-outright
returns-in-Ok-clause-outright c =
    let m = c.args.self.now in
    goes-on (work_of m) (bytes_told From (object_key c.args.object m) c.args.reply) c.in-Ok.bytes _ (sym (rw c.key_of.ensures at c.in-Ok.ensures))

pub returns-in-Err-clause-outright : goal.returns-in-Err-clause-outright
returns-in-Err-clause-outright c =
    let m = c.args.self.now in
    ends-so (work_of m) (bytes_told From (object_key c.args.object m) c.args.reply) c.in-Err.why _ (sym (rw c.key_of.ensures at c.in-Err.ensures)) (rw c.refuse.ensures refl)
