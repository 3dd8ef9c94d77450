use Rattle.std.proofs.Common.{◌≡◌, ◌++◌, drop, length}
use Rattle.ice_ids.specs.Digits.{digits_in}
use Rattle.ice_ids.proofs.base32.write_bytes.Given as goal

-- what is still to be written, before what was written
abbrev pub invariant-loop-at : goal.invariant-loop-at
invariant-loop-at l = digits_in 256 l.at l.rest ++ drop l.at l.bytes ≡ digits_in 256 (length l.bytes) l.number
