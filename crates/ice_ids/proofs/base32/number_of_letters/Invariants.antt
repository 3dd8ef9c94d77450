use Rattle.std.proofs.Common.{◌≡◌, ◌<◌, ℕ, get_or, take, map, false}
use Rattle.std.specs.Int.Digits.{number_from_digits}
use Rattle.ice_ids.specs.Text.{is_foreign, value_of}
use Rattle.ice_ids.proofs.base32.number_of_letters.Given as goal

-- each byte so far is a letter, and the number is theirs
abbrev pub invariant-loop-at : goal.invariant-loop-at
invariant-loop-at l = record {
  letters : (k : ℕ) → k < l.at → is_foreign (get_or l.text k 0) ≡ false;
  number : l.number ≡ number_from_digits 32 (map value_of (take l.at l.text));
}
