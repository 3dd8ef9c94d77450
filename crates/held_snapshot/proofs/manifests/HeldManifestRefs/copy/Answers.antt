use Rattle.std.proofs.Common.{Some, ap, ◌∙◌, sym, arith}
use Rattle.snapshot_file.specs.declared.nodes.ManifestRef.{ManifestRef}
use Rattle.held_snapshot.proofs.Made.{take_more, take_whole}
use Rattle.held_snapshot.proofs.manifests.HeldManifestRefs.copy.Goals as goal

pub loop-i-preserved : goal.loop-i-preserved
loop-i-preserved c = rw (c.in_ok-push.ensures.items, c.loop-i.invariant) (take_more c.args.self.now c.loop-i.i c.in_ok-copy.field-0 (c.at.ensures ∙ ap (λ (m : ManifestRef). Some m) (sym c.in_ok-copy.ensures)))

pub returns : goal.returns
returns c = rw c.from_vec.ensures (c.loop-i.invariant ∙ take_whole c.args.self.now c.loop-i.i (omega arith))
