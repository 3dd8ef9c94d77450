use Rattle.std.proofs.Common.{refl, sym}
use Rattle.object_store.specs.declared.events.Op.TheVariants.{List as ListPart}
use Rattle.live_refs.specs.Live.{live}
use Rattle.two_stores.specs.declared.side.Side.TheVariants.{From}
use Rattle.mirror_reports.specs.Told.{listed_told}
use Rattle.mirror.specs.Programs.{copy_refs, ref_ids}
use Rattle.mirror.specs.inside.Registers.{part_of}
use Rattle.mirror.specs.inside.Working.{work_of, behind_refs}
use Rattle.mirror.proofs.Answering.{went, was-refused, ends-so, goes-on}
use Rattle.mirror.proofs.mirror.Mirror.on_list.Goals as goal

pub returns-in-Ok-clause-took : goal.returns-in-Ok-clause-took
returns-in-Ok-clause-took c =
    let m = c.args.self.now in
    went (work_of m) From (ListPart (part_of m.register.phase)) listed_told (λ l. copy_refs (ref_ids (live l.entries)) (work_of m) (behind_refs m.register.phase)) c.args.reply c.in-Ok.listed _ (λ a b. (refl, refl)) refl (sym c.in-Ok.ensures) (rw c.as_slice.ensures at c.after_list.ensures.lands)

pub returns-in-Err-clause-took : goal.returns-in-Err-clause-took
returns-in-Err-clause-took c =
    let m = c.args.self.now in
    was-refused (work_of m) From (ListPart (part_of m.register.phase)) listed_told (λ l. copy_refs (ref_ids (live l.entries)) (work_of m) (behind_refs m.register.phase)) c.args.reply c.in-Err.why _ (λ a b. (refl, refl)) (sym c.in-Err.ensures) (rw c.refuse.ensures refl)

pub returns-in-Ok-clause-outright : goal.returns-in-Ok-clause-outright
returns-in-Ok-clause-outright c = goes-on (work_of c.args.self.now) (listed_told c.args.reply) c.in-Ok.listed _ (sym c.in-Ok.ensures)

pub returns-in-Err-clause-outright : goal.returns-in-Err-clause-outright
returns-in-Err-clause-outright c = ends-so (work_of c.args.self.now) (listed_told c.args.reply) c.in-Err.why _ (sym c.in-Err.ensures) (rw c.refuse.ensures refl)
