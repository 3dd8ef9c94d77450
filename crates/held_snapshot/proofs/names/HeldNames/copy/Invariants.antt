use Rattle.std.proofs.Common.{◌≡◌, take}
use Rattle.held_snapshot.proofs.names.HeldNames.copy.Given as goal

abbrev pub invariant-loop-k : goal.invariant-loop-k
invariant-loop-k l = l.names.items ≡ take l.k l.self
