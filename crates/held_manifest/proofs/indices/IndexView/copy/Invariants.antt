use Rattle.std.proofs.Common.{◌≡◌, take}
use Rattle.held_manifest.proofs.indices.IndexView.copy.Given as goal

abbrev pub invariant-loop-k : goal.invariant-loop-k
invariant-loop-k l = l.numbers.items ≡ take l.k l.self
