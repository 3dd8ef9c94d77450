use Rattle.std.proofs.Common.{inl, refl, ◌∙◌}
use Rattle.object_store.specs.declared.events.Op.TheVariants.{Get}
use Rattle.two_stores.specs.declared.side.Side.TheVariants.{From}
use Rattle.mirror_reports.specs.Told.{key_of, ref_told}
use Rattle.mirror.specs.Programs.{copy_ref, copy_refs, behind_ref}
use Rattle.mirror.specs.inside.Working.{work_of, behind_refs}
use Rattle.mirror.proofs.Answering.{at-first, first-awaited, took-first, went, was-refused-so}
use Rattle.mirror.proofs.mirror.Mirror.on_ref.Goals as goal

pub first-requires : goal.first-requires
first-requires c =
    let m = c.args.self.now in
    first-awaited m.register.names (work_of m) (λ r next. copy_ref r (work_of m) next) m.register.phase c.args.reply c.requires.awaited

pub after_ref-requires-clause-first : goal.after_ref-requires-clause-first
after_ref-requires-clause-first c = (_, c.first.ensures.0, c.first.ensures.1)

pub returns-in-Ok-clause-took : goal.returns-in-Ok-clause-took
returns-in-Ok-clause-took c =
    let m = c.args.self.now in
    let r = c.first.result.now in
    let rs = c.first.ensures.0 in
    took-first m.register.names rs r (work_of m) (λ r next. copy_ref r (work_of m) next) m.register.phase c.args.reply _ c.first.ensures.1 (went (work_of m) From (Get (key_of r)) (ref_told From (key_of r)) (behind_ref r (work_of m) (λ v. copy_refs rs v (behind_refs m.register.phase))) c.args.reply c.in-Ok.named _ (λ a b. (refl, refl)) refl c.in-Ok.ensures.told (inl (c.after_ref.ensures.lands ∙ at-first m.register.names rs r (work_of m) (λ r next. behind_ref r (work_of m) next c.in-Ok.named) m.register.phase c.first.ensures.1)))

pub returns-in-Err-clause-took : goal.returns-in-Err-clause-took
returns-in-Err-clause-took c =
    let m = c.args.self.now in
    let r = c.first.result.now in
    let rs = c.first.ensures.0 in
    took-first m.register.names rs r (work_of m) (λ r next. copy_ref r (work_of m) next) m.register.phase c.args.reply _ c.first.ensures.1 (was-refused-so (work_of m) From (Get (key_of r)) (ref_told From (key_of r)) (behind_ref r (work_of m) (λ v. copy_refs rs v (behind_refs m.register.phase))) c.args.reply c.in-Err.why _ (λ a b. (refl, refl)) refl c.in-Err.ensures.told c.in-Err.ensures.outright (rw c.refuse.ensures refl))
