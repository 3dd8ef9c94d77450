use Rattle.std.proofs.Common.{◌≡◌, take}
use Rattle.held_snapshot.proofs.pairs.HeldExtents.copy.Given as goal

abbrev pub invariant-loop-k : goal.invariant-loop-k
invariant-loop-k l = l.extents.items ≡ take l.k l.self
