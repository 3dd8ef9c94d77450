use Rattle.std.proofs.Common.{◌≡◌, drop}
use Rattle.xxh_sum.specs.Sums.{ones}
use Rattle.xxh_sum.proofs.ones.Given as goal

abbrev pub invariant-loop-byte : goal.invariant-loop-byte
invariant-loop-byte l = ones (drop l.byte-index l.bytes) l.sum ≡ ones l.bytes l.start
