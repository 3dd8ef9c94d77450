use Rattle.std.proofs.Common.{ap, sym, ◌∙◌, arith}
use Rattle.manifest_file.specs.declared.manifest.Place.{Place}
use Rattle.intact.specs.Parts.{inline_fault}
use Rattle.intact.proofs.Places.{short-here, short-passed, short-end}
use Rattle.intact.proofs.parts.first_short.Goals as goal

pub returns-in-Some : goal.returns-in-Some
returns-in-Some c =
    sym (c.loop-i.invariant ∙ short-here c.args.want c.args.refs.now c.loop-i.i c.at.result c.in-Some.bad c.at.ensures (ap (λ (p : Place). inline_fault c.args.want p) (sym c.place.ensures) ∙ (sym c.inline_fault.ensures ∙ c.in-Some.is)))

pub loop-i-preserved : goal.loop-i-preserved
loop-i-preserved c =
    c.loop-i.invariant ∙ short-passed c.args.want c.args.refs.now c.loop-i.i c.at.result c.at.ensures (ap (λ (p : Place). inline_fault c.args.want p) (sym c.place.ensures) ∙ (sym c.inline_fault.ensures ∙ c.in_default.is))

pub returns : goal.returns
returns c = sym (c.loop-i.invariant ∙ short-end c.args.want c.args.refs.now c.loop-i.i (omega (arith, c.len-i-end.ensures.count)))
