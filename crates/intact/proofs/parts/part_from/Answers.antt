use Rattle.std.proofs.Common.{ap, sym, ◌∙◌}
use Rattle.manifest_file.specs.declared.manifest.Place.{Place}
use Rattle.intact.specs.Parts.{part_at}
use Rattle.intact.proofs.Places.{part-here, part-passed}
use Rattle.intact.proofs.parts.part_from.Goals as goal

pub returns-in-Some : goal.returns-in-Some
returns-in-Some c =
    c.loop-i.invariant ∙ part-here c.args.want c.args.refs.now c.loop-i.i c.at.result c.in-Some.part c.at.ensures (ap (λ (p : Place). part_at c.args.want p) (sym c.place.ensures) ∙ (sym c.part_at.ensures ∙ c.in-Some.is))

pub loop-i-preserved : goal.loop-i-preserved
loop-i-preserved c =
    c.loop-i.invariant ∙ part-passed c.args.want c.args.refs.now c.loop-i.i c.at.result c.at.ensures (ap (λ (p : Place). part_at c.args.want p) (sym c.place.ensures) ∙ (sym c.part_at.ensures ∙ c.in_default.is))
