-- Own: bytes as text, in digits of base 16.
use Rattle.std.specs.Prelude.{◌≡◌, ◌≢◌, ℕ, ◌/◌, ◌%◌, List, [], ◌∷◌, ◌↔◌, Ok, codes}
use Rattle.std.specs.List.{flat_map}
use Rattle.std.specs.Char.{digit_char}
use Rattle.ice_base.specs.Lists.{IsBytes}
use Rattle.script_values.specs.Words.{Text}
use Rattle.script_values.specs.Values.{bytes_of}

-- a byte in two digits, with lower-case letters
abbrev pub byte_text : ℕ → Text
byte_text b = digit_char (b / 16) ∷ digit_char (b % 16) ∷ []

-- bytes one behind the other, and `-` where there are none
abbrev pub bytes_text : List ℕ → Text
bytes_text [] = codes "-"
bytes_text (b ∷ bs) = flat_map byte_text (b ∷ bs)

-- a word stands for bytes just where it is their text
abbrev pub HexLaw : Type 0
HexLaw =
    (w : Text) (bytes : List ℕ) → w ≢ []
    → (bytes_of w ≡ Ok bytes) ↔ (IsBytes bytes × (w ≡ bytes_text bytes))
