use Rattle.std.proofs.Common.{ap, sym, ◌∙◌}
use Rattle.held_manifest.specs.Objects.{object_of}
use Rattle.held_manifest.proofs.Walking.{chunk_names, chunk_passed}
use Rattle.held_manifest.proofs.objects.object_in_refs.Goals as goal

pub returns-in-Some : goal.returns-in-Some
returns-in-Some c =
    c.loop-i.invariant
    ∙ chunk_names c.args.refs.now c.loop-i.i c.at.result c.in-Some.id c.at.ensures (ap object_of (sym c.place.ensures) ∙ sym c.object.ensures ∙ c.in-Some.is)

pub loop-i-preserved : goal.loop-i-preserved
loop-i-preserved c =
    c.loop-i.invariant
    ∙ chunk_passed c.args.refs.now c.loop-i.i c.at.result c.at.ensures (ap object_of (sym c.place.ensures) ∙ sym c.object.ensures ∙ c.in_default.is)
