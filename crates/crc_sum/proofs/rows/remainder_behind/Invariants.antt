use Rattle.std.proofs.Common.{◌≡◌, ℕ, length, drop}
use Rattle.crc_sum.specs.Crc.{remainder_behind, AreRows}
use Rattle.crc_sum.proofs.rows.remainder_behind.Given as goal

abbrev pub invariant-loop-rest : goal.invariant-loop-rest
invariant-loop-rest l = (polynomial : ℕ) → AreRows polynomial l.rows → remainder_behind polynomial l.remainder l.rest ≡ remainder_behind polynomial l.fn.remainder l.bytes

abbrev pub decreases-loop-rest : goal.decreases-loop-rest
decreases-loop-rest l = length l.rest

abbrev pub invariant-loop-byte : goal.invariant-loop-byte
invariant-loop-byte l = (polynomial : ℕ) → AreRows polynomial l.rows → remainder_behind polynomial l.remainder (drop l.byte-index l.byte-items) ≡ remainder_behind polynomial l.fn.remainder l.bytes
