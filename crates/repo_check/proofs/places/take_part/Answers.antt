use Rattle.std.proofs.Common.{◌∙◌, sym, ap, length, List, arith}
use Rattle.intact.specs.declared.visits.PartVisit.{PartVisit}
use Rattle.repo_check.proofs.Stepping.{part-passed, part-stops, parts-over}
use Rattle.repo_check.proofs.places.take_part.Goals as goal

pub returns-then-not-has_part : goal.returns-then-not-has_part
returns-then-not-has_part c =
    let first = c.in-Some.ensures in
    (c.loop-visit.invariant.left ∙ part-stops c.args.work.now.parts c.loop-visit.place c.next.new.self c.in-Some.visit first (sym c.has_part.ensures ∙ c.if-not-has_part.true), omega (arith, ap (λ (l : List PartVisit). length l) first, c.loop-visit.invariant.fewer))

pub loop-visit-preserved : goal.loop-visit-preserved
loop-visit-preserved c =
    let first = c.in-Some.ensures in
    record {
      left = c.loop-visit.invariant.left ∙ part-passed c.args.work.now.parts c.loop-visit.place c.next.new.self c.in-Some.visit first (sym c.has_part.ensures ∙ c.if-not-has_part.false);
      fewer = omega (arith, ap (λ (l : List PartVisit). length l) first, c.loop-visit.invariant.fewer);
    }

pub returns : goal.returns
returns c = c.loop-visit.invariant.left ∙ parts-over c.args.work.now.parts c.loop-visit.place c.in_default.ensures.0
