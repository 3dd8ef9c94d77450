use Rattle.std.proofs.Common.{◌∙◌, length, sym, ap}
use Rattle.array_region.proofs.Planned.{over_at}
use Rattle.array_region.proofs.Ranged.{uncovered, not_same}
use Rattle.array_region.proofs.plans.Plan.covers.Goals as goal

pub covered-requires : goal.covered-requires
covered-requires c =
    let p = c.args.self.now in
    over_at p.array p.region.from.items p.region.to.items c.sides.result.chunks.now c.sides.result.from.now c.sides.result.to.now c.sides.result.index.now p.count p.within c.sides.ensures.chunks c.sides.ensures.from c.sides.ensures.to
    (ap length c.sides.ensures.index ∙ ap length (sym c.parts.ensures.value) ∙ c.if-parts-as_slice.true ∙ ap length c.as_slice.ensures)

pub returns-else-parts-as_slice : goal.returns-else-parts-as_slice
returns-else-parts-as_slice c =
    let p = c.args.self.now in
    not_same (length c.parts.result.now) (length c.as_slice.result.now) c.if-parts-as_slice.false
    ∙ sym (uncovered p.region.from.items p.region.to.items p.array.chunks c.args.index.now (λ e. c.if-parts-as_slice.false (ap length c.parts.ensures.value ∙ e ∙ sym (ap length c.as_slice.ensures))))
