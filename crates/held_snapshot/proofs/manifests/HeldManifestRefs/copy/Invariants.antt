use Rattle.std.proofs.Common.{◌≡◌, take}
use Rattle.held_snapshot.proofs.manifests.HeldManifestRefs.copy.Given as goal

abbrev pub invariant-loop-i : goal.invariant-loop-i
invariant-loop-i l = l.manifests.items ≡ take l.i l.self
