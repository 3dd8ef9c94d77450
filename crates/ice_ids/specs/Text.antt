-- Ids and their texts: Icechunk specification version 1, object ids, in Crockford's base 32.
use Rattle.std.specs.Prelude.{ℕ, ◌≡◌, ◌<◌, ◌*◌, ◌/◌, ◌%◌, ◌^◌, ◌==◌, List, [], ◌∷◌, length, map}
use Rattle.std.specs.Prelude.{slice_index, Bool, if◌then◌else◌, Option, Some, None, is_none}
use Rattle.std.specs.Prelude.{unwrap_or, Result, Ok, Err, All, codes, position, bytes_eq}
use Rattle.std.specs.Int.Digits.{number_from_digits}
use Rattle.std.specs.Ordering.{nat_cmp}
use Rattle.std.specs.Cmp.Lexicographic.{slice_cmp}
use Rattle.std.specs.declared.cmp.Ordering.{Ordering}
use Rattle.ice_ids.specs.declared.Id12.{Id12}
use Rattle.ice_ids.specs.declared.Id8.{Id8}
use Rattle.ice_ids.specs.declared.IdFault.{IdFault}
use Rattle.ice_ids.specs.declared.IdFault.TheVariants as F
use Rattle.ice_ids.specs.Digits.{digits_in}

-- Crockford's alphabet: digits and capitals without I, L, O and U. His aliases O, I, L and lower
-- case aren't read (own), so that an object has one name.
unfoldable pub alphabet : List ℕ
alphabet = codes "0123456789ABCDEFGHJKMNPQRSTVWXYZ"

-- the letter of a digit
unfoldable pub letter_of : ℕ → ℕ
letter_of digit = slice_index alphabet digit

-- the digit that a letter stands for
unfoldable pub digit_of : ℕ → Option ℕ
digit_of letter = position (λ a. a == letter) alphabet

-- a letter's worth in a text, and the test that a byte is no letter
unfoldable pub value_of : ℕ → ℕ
value_of letter = unwrap_or (digit_of letter) 0

unfoldable pub is_foreign : ℕ → Bool
is_foreign letter = is_none (digit_of letter)

-- Bytes are one number, the most significant byte first. The text writes that number, with zero
-- bits added at its end, in base 32, the most significant digit first.
unfoldable pub text_of_bytes : (characters added : ℕ) → List ℕ → List ℕ
text_of_bytes characters added bytes =
    map letter_of (digits_in 32 characters (number_from_digits 256 bytes * 2 ^ added))

-- the number that a text writes, unless a byte of it was found that is no letter
unfoldable pub number_unless : Option ℕ → List ℕ → Result ℕ IdFault
number_unless (Some at) text = Err (F.Digit at)
number_unless None text = Ok (number_from_digits 32 (map value_of text))

-- the number that the letters of a text write, or the place of the first byte that is no letter
unfoldable pub number_of_letters : List ℕ → Result ℕ IdFault
number_of_letters text = number_unless (position is_foreign text) text

-- the number without its added bits, which must be zero (own)
unfoldable pub without_added : (added : ℕ) → Result ℕ IdFault → Result ℕ IdFault
without_added added (Ok number) =
    if number % 2 ^ added == 0 then Ok (number / 2 ^ added) else Err F.Added
without_added added (Err fault) = Err fault

-- the number that the bytes of a text's id stand for
unfoldable pub number_of_text : (characters added : ℕ) → List ℕ → Result ℕ IdFault
number_of_text characters added text =
    if length text == characters then without_added added (number_of_letters text)
    else Err (F.Length (length text))

-- an object id: 12 bytes, 20 letters, 4 added bits
abbrev pub IsId12 : Id12 → Type 0
IsId12 id = (length id.0 ≡ 12) × All (λ byte. byte < 256) id.0

abbrev pub id12_text : Id12 → List ℕ
id12_text id = text_of_bytes 20 4 id.0

abbrev pub id12_of_number : Result ℕ IdFault → Result Id12 IdFault
id12_of_number (Ok number) = Ok (record { 0 = digits_in 256 12 number })
id12_of_number (Err fault) = Err fault

abbrev pub id12_of_text : List ℕ → Result Id12 IdFault
id12_of_text text = id12_of_number (number_of_text 20 4 text)

-- the id of the initial snapshot (own)
abbrev pub initial_id : Id12
initial_id = record {
  0 = 0x0b ∷ 0x1c ∷ 0xc8 ∷ 0xd6 ∷ 0x78 ∷ 0x75 ∷ 0x80 ∷ 0xf0 ∷ 0xe3 ∷ 0x3a ∷ 0x65 ∷ 0x34 ∷ [];
}

-- a node id: 8 bytes, 13 letters, 1 added bit
abbrev pub IsId8 : Id8 → Type 0
IsId8 id = (length id.0 ≡ 8) × All (λ byte. byte < 256) id.0

abbrev pub id8_text : Id8 → List ℕ
id8_text id = text_of_bytes 13 1 id.0

abbrev pub id8_of_number : Result ℕ IdFault → Result Id8 IdFault
id8_of_number (Ok number) = Ok (record { 0 = digits_in 256 8 number })
id8_of_number (Err fault) = Err fault

abbrev pub id8_of_text : List ℕ → Result Id8 IdFault
id8_of_text text = id8_of_number (number_of_text 13 1 text)

-- ids are compared by their bytes
abbrev pub same_id12 : Id12 → Id12 → Bool
same_id12 a b = bytes_eq a.0 b.0

abbrev pub same_id8 : Id8 → Id8 → Bool
same_id8 a b = bytes_eq a.0 b.0

abbrev pub id12_cmp : Id12 → Id12 → Ordering
id12_cmp a b = slice_cmp nat_cmp a.0 b.0

abbrev pub id8_cmp : Id8 → Id8 → Ordering
id8_cmp a b = slice_cmp nat_cmp a.0 b.0
