use Rattle.std.proofs.Common.{◌≡◌, drop}
use Rattle.held_manifest.specs.LookUp.{within}
use Rattle.held_snapshot.proofs.pairs.HeldExtents.contain.Given as goal

abbrev pub invariant-loop-k : goal.invariant-loop-k
invariant-loop-k l = within (drop l.k l.self) (drop l.k l.index) ≡ within l.self l.index
