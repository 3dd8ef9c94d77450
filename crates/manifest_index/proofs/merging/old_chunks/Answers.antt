use Rattle.std.proofs.Common.{arith, ◌-◌, All}
use Rattle.std.proofs.lemmas.Grind.{common_steps}
use Rattle.manifest_index.specs.inside.Chunks.{IsSized}
use Rattle.manifest_index.proofs.Steps.{all_next}
use Rattle.manifest_index.proofs.merging.old_chunks.Goals as goal

pub loop-k-preserved : goal.loop-k-preserved
loop-k-preserved c = record {
  found = λ q. grind (arith, common_steps, c.loop-k.invariant.found q, c.in_ok-enter_manifest.ensures.entered q);
  sized = all_next (λ m. All IsSized m.0) c.args.manifests.now (c.loop-k.k - 1) c.loop-k.k c.index-manifests-k.result (omega (arith, c.loop-k-test.true)) (omega (arith, c.loop-k-test.true, c.loop-k.auto.k)) c.index-manifests-k.is c.in_ok-enter_manifest.ensures.sized c.loop-k.invariant.sized;
}

pub returns-clause-sized : goal.returns-clause-sized
returns-clause-sized c = λ j d below. c.loop-k.invariant.sized j d (omega (arith, c.loop-k-test.false)) below
