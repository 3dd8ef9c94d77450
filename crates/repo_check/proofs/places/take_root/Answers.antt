use Rattle.std.proofs.Common.{◌∙◌, sym, ap, length, List, arith}
use Rattle.ice_ids.specs.declared.Id12.{Id12}
use Rattle.repo_check.proofs.Stepping.{root-passed, root-stops, roots-over}
use Rattle.repo_check.proofs.places.take_root.Goals as goal

pub returns-then-not-has_met : goal.returns-then-not-has_met
returns-then-not-has_met c =
    let first = c.in-Some.ensures in
    (c.loop-id.invariant.left ∙ root-stops c.args.work.now.met c.loop-id.roots c.take.new.self c.in-Some.id first (sym c.has_met.ensures ∙ c.if-not-has_met.true), omega (arith, ap (λ (l : List Id12). length l) first, c.loop-id.invariant.fewer))

pub loop-id-preserved : goal.loop-id-preserved
loop-id-preserved c =
    let first = c.in-Some.ensures in
    record {
      left = c.loop-id.invariant.left ∙ root-passed c.args.work.now.met c.loop-id.roots c.take.new.self c.in-Some.id first (sym c.has_met.ensures ∙ c.if-not-has_met.false);
      fewer = omega (arith, ap (λ (l : List Id12). length l) first, c.loop-id.invariant.fewer);
    }

pub returns : goal.returns
returns c = (c.loop-id.invariant.left ∙ roots-over c.args.work.now.met c.loop-id.roots c.in_default.ensures.0, c.in_default.ensures.1)
