use Rattle.std.proofs.Common.{◌≡◌, take}
use Rattle.manifest_index.proofs.copies.own_index.Given as goal

abbrev pub invariant-loop-k : goal.invariant-loop-k
invariant-loop-k l = l.numbers.items ≡ take l.k l.chunk.index
