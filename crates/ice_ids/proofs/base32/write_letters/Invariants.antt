use Rattle.std.proofs.Common.{◌≡◌, ◌++◌, drop, length, map}
use Rattle.ice_ids.specs.Digits.{digits_in}
use Rattle.ice_ids.specs.Text.{letter_of}
use Rattle.ice_ids.proofs.base32.write_letters.Given as goal

-- what is still to be written, before what was written
abbrev pub invariant-loop-at : goal.invariant-loop-at
invariant-loop-at l = map letter_of (digits_in 32 l.at l.rest) ++ drop l.at l.text ≡ map letter_of (digits_in 32 (length l.text) l.number)
