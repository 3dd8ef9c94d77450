use Rattle.std.proofs.Common.{true, refl, sym, ◌∙◌}
use Rattle.ref_file.specs.Refs.{ref_bytes}
use Rattle.object_store.specs.declared.keys.Why.TheVariants as why
use Rattle.object_store.specs.declared.events.Version.{Version}
use Rattle.object_store.specs.declared.events.Op.TheVariants.{PutOver}
use Rattle.two_stores.specs.declared.side.Side.TheVariants.{To}
use Rattle.mirror_reports.specs.Told.{key_of, moved_told}
use Rattle.mirror.specs.Programs.{Work, copy_refs, move_ref, with_ref}
use Rattle.mirror.specs.inside.Working.{work_of, behind_refs}
use Rattle.mirror.proofs.Answering.{at-first, first-awaited, took-first, went-surely, was-refused}
use Rattle.mirror.proofs.mirror.Mirror.on_over_ref.Goals as goal

some-version : Version
some-version = record { 0 = 0 }

pub told_ref-requires : goal.told_ref-requires
told_ref-requires c =
    let m = c.args.self.now in
    record { first = first-awaited m.register.names (work_of m) (λ r next. move_ref r m.target (work_of m) next some-version) m.register.phase c.args.reply (c.requires.awaited some-version) }

pub returns-in-Ok-clause-took : goal.returns-in-Ok-clause-took
returns-in-Ok-clause-took c old =
    let m = c.args.self.now in
    let one = first-awaited m.register.names (work_of m) (λ r next. move_ref r m.target (work_of m) next old) m.register.phase c.args.reply (c.requires.awaited old) in
    let r = one.0 in
    let rs = one.1 in
    let next = λ (v : Work). copy_refs rs v (behind_refs m.register.phase) in
    took-first m.register.names rs r (work_of m) (λ r next. move_ref r m.target (work_of m) next old) m.register.phase c.args.reply _ one.2 (went-surely (work_of m) To (PutOver (key_of r) (ref_bytes m.target) old why.Reset) moved_told (λ done. next (with_ref r m.target true (work_of m))) c.args.reply tt _ (λ a b. (refl, refl)) (sym c.in-Ok.ensures) (c.told_ref.ensures.lands ∙ at-first m.register.names rs r (work_of m) (λ r next. next (with_ref r m.target true (work_of m))) m.register.phase one.2))

pub returns-in-Err-clause-took : goal.returns-in-Err-clause-took
returns-in-Err-clause-took c old =
    let m = c.args.self.now in
    let one = first-awaited m.register.names (work_of m) (λ r next. move_ref r m.target (work_of m) next old) m.register.phase c.args.reply (c.requires.awaited old) in
    let r = one.0 in
    let rs = one.1 in
    let next = λ (v : Work). copy_refs rs v (behind_refs m.register.phase) in
    took-first m.register.names rs r (work_of m) (λ r next. move_ref r m.target (work_of m) next old) m.register.phase c.args.reply _ one.2 (was-refused (work_of m) To (PutOver (key_of r) (ref_bytes m.target) old why.Reset) moved_told (λ done. next (with_ref r m.target true (work_of m))) c.args.reply c.in-Err.why _ (λ a b. (refl, refl)) (sym c.in-Err.ensures) (rw c.refuse.ensures refl))
