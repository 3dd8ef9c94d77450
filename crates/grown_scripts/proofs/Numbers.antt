-- Numbers are read back from their digits.
use Rattle.std.proofs.Common.{◌≡◌, ℕ, ◌+◌, ◌*◌, ◌/◌, ◌%◌, ◌^◌, ◌<◌, ◌≤◌, Bool, true, false, cond, length, Ok, Err, refl, ap, ◌∙◌, arith}
use Rattle.std.specs.Prelude.{◌&&◌, not, ◌==◌, nat_le, decimal}
use Rattle.std.specs.List.{list_all}
use Rattle.std.specs.Char.{is_ascii_digit}
use Rattle.std.specs.Fmt.{digit_glyph}
use Rattle.std.specs.Str.Parse.{digits_value}
use Rattle.std.proofs.lemmas.Bool.{and_from, le-leb}
use Rattle.std.proofs.lemmas.Bool.Decides.{nat_tests}
use Rattle.std.proofs.lemmas.Fmt.{digits_decimal, digits_value-decimal, decimal_nonempty}
use Rattle.script_values.specs.declared.kinds.ScriptKind.TheVariants as k
use Rattle.script_values.specs.Words.{Text}
use Rattle.script_values.specs.Values.{is_digits, is_number, number_of, hex_digit_of, byte_of}
use Rattle.script_values.proofs.Digits.{own}
use Rattle.grow_script.specs.Script.{hex_pair}

pub decimal_digits : (n : ℕ) → n < 2 ^ 64 → list_all is_ascii_digit (decimal n) ≡ true
decimal_digits n low = digits_decimal own n low

digits_alone : (w : Text) → 0 < length w → list_all is_ascii_digit w ≡ true → is_digits w ≡ true
digits_alone w some h = and_from (not (length w == 0)) (list_all is_ascii_digit w) (grind (arith, nat_tests)) h

tested : (b : Bool) (value : ℕ) → b ≡ true → cond b (Ok value) (Err k.Number) ≡ Ok value
tested b value h = rw h refl

pub number_back : (least most n : ℕ) → n < 2 ^ 64 → least ≤ n → n ≤ most → number_of least most (decimal n) ≡ Ok n
unfolding number_of
number_back least most n low above below =
    let value : digits_value 10 (decimal n) ≡ n = digits_value-decimal own n low in
    let digits = digits_alone (decimal n) (decimal_nonempty n low) (decimal_digits n low) in
    let from_least : nat_le least (digits_value 10 (decimal n)) ≡ true = le-leb least (digits_value 10 (decimal n)) (omega (arith, value)) in
    let to_most : nat_le (digits_value 10 (decimal n)) most ≡ true = le-leb (digits_value 10 (decimal n)) most (omega (arith, value)) in
    tested (is_number least most (decimal n)) (digits_value 10 (decimal n)) (and_from (is_digits (decimal n) && nat_le least (digits_value 10 (decimal n))) (nat_le (digits_value 10 (decimal n)) most) (and_from (is_digits (decimal n)) (nat_le least (digits_value 10 (decimal n))) digits from_least) to_most)
    ∙ ap (λ (m : ℕ). Ok m) value

-- a byte of two digits

glyph_back : (d : ℕ) → d < 16 → hex_digit_of (digit_glyph false d) ≡ Ok d
unfolding hex_digit_of
glyph_back d low = grind (arith, nat_tests)

pub byte_back : (b : ℕ) → b < 256 → byte_of (hex_pair b) ≡ Ok b
unfolding byte_of
byte_back b low =
    let whole : b / 16 * 16 + b % 16 ≡ b = omega arith in
    rw (glyph_back (b / 16) (omega arith), glyph_back (b % 16) (omega arith)) (ap (λ (x : ℕ). Ok x) whole)
