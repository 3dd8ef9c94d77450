use Rattle.std.proofs.Common.{◌≡◌, drop}
use Rattle.held_manifest.specs.LookUp.{look_up}
use Rattle.held_manifest.proofs.looking.look_up.Given as goal

abbrev pub invariant-loop-extents : goal.invariant-loop-extents
invariant-loop-extents l = look_up l.node l.index (drop l.extents-index l.manifests) ≡ look_up l.node l.index l.manifests
