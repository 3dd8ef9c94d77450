-- Tests that all bytes of a text pass.
use Rattle.std.proofs.Common.{◌≡◌, ℕ, zero, suc, Bool, true, [], ◌∷◌, ◌++◌, refl, arith}
use Rattle.std.specs.Prelude.{◌&&◌, not, ◌==◌, nat_lt}
use Rattle.std.specs.List.{list_all}
use Rattle.std.specs.Char.{is_ascii_digit}
use Rattle.std.specs.Str.{IsAscii, is_utf8}
use Rattle.std.proofs.lemmas.Bool.{and_parts, and_from, ltb-true}
use Rattle.std.proofs.lemmas.Bool.Decides.{nat_tests}
use Rattle.std.proofs.lemmas.Str.{IsUtf8-from_ascii, is_utf8-from_IsUtf8}
use Rattle.script_values.specs.Words.{Text}

pub all_append : (p : ℕ → Bool) (xs ys : Text) → list_all p xs ≡ true → list_all p ys ≡ true → list_all p (xs ++ ys) ≡ true
all_append p [] ys h k = k
all_append p (x ∷ xs) ys h k =
    let parts = and_parts (p x) (list_all p xs) h in
    and_from (p x) (list_all p (xs ++ ys)) parts.0 (all_append p xs ys parts.1 k)

pub all_weaker : (p q : ℕ → Bool) → ((b : ℕ) → p b ≡ true → q b ≡ true) → (xs : Text) → list_all p xs ≡ true → list_all q xs ≡ true
all_weaker p q weaker [] h = refl
all_weaker p q weaker (x ∷ xs) h =
    let parts = and_parts (p x) (list_all p xs) h in
    and_from (q x) (list_all q xs) (weaker x parts.0) (all_weaker p q weaker xs parts.1)

-- a byte that no line feed is: ASCII from the space on
abbrev pub is_line_byte : ℕ → Bool
is_line_byte b = nat_lt 31 b && nat_lt b 128

abbrev pub is_line : Text → Bool
is_line text = list_all is_line_byte text

-- a byte of a word: neither a space nor a star
abbrev pub is_word_byte : ℕ → Bool
is_word_byte b = nat_lt 42 b && nat_lt b 128

abbrev pub is_word : Text → Bool
is_word text = list_all is_word_byte text

-- a byte that isn't this one
abbrev pub is_not : ℕ → ℕ → Bool
is_not c b = not (b == c)

-- digits make words
pub digit_word : (ds : Text) → list_all is_ascii_digit ds ≡ true → is_word ds ≡ true
digit_word ds h = all_weaker is_ascii_digit is_word_byte (λ b d. grind (arith, nat_tests)) ds h

pub digit_no_comma : (ds : Text) → list_all is_ascii_digit ds ≡ true → list_all (is_not 44) ds ≡ true
digit_no_comma ds h = all_weaker is_ascii_digit (is_not 44) (λ b d. grind (arith, nat_tests)) ds h

pub word_line : (w : Text) → is_word w ≡ true → is_line w ≡ true
word_line w h = all_weaker is_word_byte is_line_byte (λ b d. grind (arith, nat_tests)) w h

pub word_no_space : (w : Text) → is_word w ≡ true → list_all (is_not 32) w ≡ true
word_no_space w h = all_weaker is_word_byte (is_not 32) (λ b d. grind (arith, nat_tests)) w h

pub word_no_star : (w : Text) → is_word w ≡ true → list_all (is_not 42) w ≡ true
word_no_star w h = all_weaker is_word_byte (is_not 42) (λ b d. grind (arith, nat_tests)) w h

pub line_no_feed : (w : Text) → is_line w ≡ true → list_all (is_not 10) w ≡ true
line_no_feed w h = all_weaker is_line_byte (is_not 10) (λ b d. grind (arith, nat_tests)) w h

ascii_bytes : (w : Text) → is_line w ≡ true → IsAscii w
ascii_bytes [] h i = omega arith
ascii_bytes (b ∷ bs) h zero = ltb-true b 128 (and_parts (nat_lt 31 b) (nat_lt b 128) (and_parts (is_line_byte b) (is_line bs) h).0).1
ascii_bytes (b ∷ bs) h (suc i) = ascii_bytes bs (and_parts (is_line_byte b) (is_line bs) h).1 i

-- such a line is text
pub line_text : (w : Text) → is_line w ≡ true → is_utf8 w ≡ true
line_text w h = is_utf8-from_IsUtf8 w (IsUtf8-from_ascii w (ascii_bytes w h))
