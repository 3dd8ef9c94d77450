use Rattle.std.proofs.Common.{refl, sym, subst}
use Rattle.object_store.specs.declared.keys.Key.TheVariants.{Tombstone}
use Rattle.object_store.specs.declared.events.Op.TheVariants.{Get}
use Rattle.two_stores.specs.declared.side.Side.TheVariants.{To}
use Rattle.mirror_reports.specs.Told.{buried_told}
use Rattle.mirror.specs.Programs.{copy_refs, see_tag, unless_buried}
use Rattle.mirror.specs.inside.Working.{Lands, mirror_rest, work_of, behind_refs}
use Rattle.mirror.proofs.Answering.{at-first, first-awaited, took-first, went, was-refused, ends-so, goes-on}
use Rattle.mirror.proofs.mirror.Mirror.on_tombstone.Goals as goal

pub after_tombstone-requires-clause-first : goal.after_tombstone-requires-clause-first
after_tombstone-requires-clause-first c =
    let m = c.args.self.now in
    first-awaited m.register.names (work_of m) (λ r next. see_tag r m.target (work_of m) next c.args.there) m.register.phase c.args.reply c.requires.awaited

pub returns-in-Ok-clause-took : goal.returns-in-Ok-clause-took
returns-in-Ok-clause-took c =
    let m = c.args.self.now in
    let one = first-awaited m.register.names (work_of m) (λ r next. see_tag r m.target (work_of m) next c.args.there) m.register.phase c.args.reply c.requires.awaited in
    let r = one.0 in
    let rs = one.1 in
    took-first m.register.names rs r (work_of m) (λ r next. see_tag r m.target (work_of m) next c.args.there) m.register.phase c.args.reply _ one.2 (went (work_of m) To (Get (Tombstone r.name)) buried_told (unless_buried r m.target (work_of m) (λ v. copy_refs rs v (behind_refs m.register.phase)) c.args.there) c.args.reply c.in-Ok.buried _ (λ a b. (refl, refl)) refl (sym c.in-Ok.ensures) (subst (λ p. Lands m.register.refs p (mirror_rest c.after_tombstone.new.self)) (at-first m.register.names rs r (work_of m) (λ r next. unless_buried r m.target (work_of m) next c.args.there c.in-Ok.buried) m.register.phase one.2) c.after_tombstone.ensures.lands))

pub returns-in-Err-clause-took : goal.returns-in-Err-clause-took
returns-in-Err-clause-took c =
    let m = c.args.self.now in
    let one = first-awaited m.register.names (work_of m) (λ r next. see_tag r m.target (work_of m) next c.args.there) m.register.phase c.args.reply c.requires.awaited in
    let r = one.0 in
    let rs = one.1 in
    took-first m.register.names rs r (work_of m) (λ r next. see_tag r m.target (work_of m) next c.args.there) m.register.phase c.args.reply _ one.2 (was-refused (work_of m) To (Get (Tombstone r.name)) buried_told (unless_buried r m.target (work_of m) (λ v. copy_refs rs v (behind_refs m.register.phase)) c.args.there) c.args.reply c.in-Err.why _ (λ a b. (refl, refl)) (sym c.in-Err.ensures) (rw c.refuse.ensures refl))

pub returns-in-Ok-clause-outright : goal.returns-in-Ok-clause-outright
returns-in-Ok-clause-outright c = goes-on (work_of c.args.self.now) (buried_told c.args.reply) c.in-Ok.buried _ (sym c.in-Ok.ensures)

pub returns-in-Err-clause-outright : goal.returns-in-Err-clause-outright
returns-in-Err-clause-outright c = ends-so (work_of c.args.self.now) (buried_told c.args.reply) c.in-Err.why _ (sym c.in-Err.ensures) (rw c.refuse.ensures refl)
