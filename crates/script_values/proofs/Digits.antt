-- What `parse` reads of digits alone.
use Rattle.std.proofs.Common.{◌≡◌, ℕ, ◌<◌, ◌^◌, Bool, true, false, nat_eq, List, length, Result, refl, rules}
use Rattle.std.specs.Prelude.{not, ◌&&◌}
use Rattle.std.specs.Result.{OkIff}
use Rattle.std.specs.List.{list_all}
use Rattle.std.specs.Char.{is_ascii_digit}
use Rattle.std.specs.Str.Parse.{ParsesUnsigned, digits_value}
use Rattle.std.proofs.lemmas.Str.Parse.{IsNumeralModel, IsDigitsTest, numerals_by_value, parse_digits}
use Rattle.script_values.specs.Values.{is_digits}

abbrev pub all_digits : List ℕ → Bool
all_digits ds = list_all is_ascii_digit ds

tells : IsDigitsTest (λ ds. all_digits ds ≡ true)
tells = search rules

pub own : IsNumeralModel (λ ds. all_digits ds ≡ true) (digits_value 10)
own = numerals_by_value _ tells

split : (b d : Bool) → (b && d) ≡ true → (b ≡ true) × (d ≡ true)
split true true h = (refl, refl)
split true false h = absurd (search (rules, h))
split false d h = absurd (search (rules, h))

parsed_at : {E : Type 0} (k : ℕ) (bs : List ℕ) (r : Result ℕ E) → ParsesUnsigned k 10 bs r → is_digits bs ≡ true → OkIff r ((0 < length bs) × (digits_value 10 bs < 2 ^ k)) (digits_value 10 bs)
parsed_at k bs r h d = parse_digits own k bs r h (split (not (nat_eq (length bs) 0)) (all_digits bs) d).1

pub parsed : {E : Type 0} (bs : List ℕ) (r : Result ℕ E) → ParsesUnsigned 32 10 bs r → is_digits bs ≡ true → OkIff r ((0 < length bs) × (digits_value 10 bs < 2 ^ 32)) (digits_value 10 bs)
parsed bs r h d = parsed_at 32 bs r h d

pub parsed_long : {E : Type 0} (bs : List ℕ) (r : Result ℕ E) → ParsesUnsigned 64 10 bs r → is_digits bs ≡ true → OkIff r ((0 < length bs) × (digits_value 10 bs < 2 ^ 64)) (digits_value 10 bs)
parsed_long bs r h d = parsed_at 64 bs r h d

pub parsed_wide : {E : Type 0} (bs : List ℕ) (r : Result ℕ E) → ParsesUnsigned 128 10 bs r → is_digits bs ≡ true → OkIff r ((0 < length bs) × (digits_value 10 bs < 2 ^ 128)) (digits_value 10 bs)
parsed_wide bs r h d = parsed_at 128 bs r h d
