-- Names of files aside, by their first byte and the number that they spell.
use Rattle.std.proofs.Common.{◌≡◌, ℕ, ◌^◌, ◌<◌, ◌≤◌, true, false, is_ok, List, length, get_or, Result, Ok, Err, OkIff, refl, ap, subst, ◌∙◌, arith, ◌⊎◌, inl, inr}
use Rattle.std.specs.Fmt.{decimal}
use Rattle.std.specs.Str.Parse.{digits_value, AllDigits, ParsesUnsigned}
use Rattle.std.proofs.lemmas.Bool.{cases_lt}
use Rattle.std.proofs.lemmas.Fmt.{digits_decimal, digits_value-decimal, decimal_nonempty, first_decimal, decimal-digits_value, decimal_digit}
use Rattle.std.proofs.lemmas.Str.Parse.{IsNumeralModel, numerals_by_value, tells_digits, digit_at, parse_plain}
use Rattle.object_files.specs.Paths.{IsAsideName}

own : IsNumeralModel (AllDigits 10) (digits_value 10)
own = numerals_by_value (AllDigits 10) tells_digits

wide : (n : ℕ) → n < 2 ^ 32 → n < 2 ^ 64
wide n l = omega arith

first-digit : (n : ℕ) → n < 2 ^ 32 → (48 ≤ get_or (decimal n) 0 0) × (get_or (decimal n) 0 0 ≤ 57)
first-digit n l = digit_at (decimal n) 0 (digits_decimal own n (wide n l)) (decimal_nonempty n (wide n l))

-- no needless zero
no-zero : (n : ℕ) → n < 2 ^ 32 → get_or (decimal n) 0 0 ≡ 48 → length (decimal n) ≡ 1
no-zero n l h = by_case (cases_lt 0 n)
  where
    by_case : (0 < n) ⊎ (n ≤ 0) → length (decimal n) ≡ 1
    by_case (inl m) = absurd (omega (arith, first_decimal n m (wide n l), h))
    by_case (inr m) = let zero : n ≡ 0 = omega arith in ap (λ k. length (decimal k)) zero ∙ ap length (decimal_digit 0 (omega arith))

pub dressed : (name : List ℕ) → (get_or name 0 0 ≡ 43) ⊎ ((get_or name 0 0 ≡ 48) × (1 < length name)) → IsAsideName name → ⊥
dressed name (inl plus) aside = omega (arith, first-digit aside.0 aside.1, ap (λ x. get_or x 0 0) aside.2, plus)
dressed name (inr zero) aside = omega (arith, no-zero aside.0 aside.1 (ap (λ x. get_or x 0 0) aside.2 ∙ zero.0), ap length aside.2, zero.1)

told : {E : Type 0} (name : List ℕ) (r : Result ℕ E) → (get_or name 0 0 ≡ 48 → 1 < length name → ⊥)
    → OkIff r (AllDigits 10 name × (0 < length name) × (digits_value 10 name < 2 ^ 32)) (digits_value 10 name)
    → (is_ok r ≡ true → IsAsideName name) × (IsAsideName name → is_ok r ≡ true)
told name (Ok n) plain h =
    (λ yes. (digits_value 10 name, h.0.2, decimal-digits_value own name h.0.0 h.0.1 (λ z. one (cases_lt 1 (length name)) z) (wide (digits_value 10 name) h.0.2)), λ aside. refl)
  where
    one : (1 < length name) ⊎ (length name ≤ 1) → get_or name 0 0 ≡ 48 → length name ≡ 1
    one (inl l) z = absurd (plain z l)
    one (inr l) z = omega (arith, h.0.1)
told name (Err e) plain h = (λ yes. let bad : ◌≡◌ false true = yes in cc, λ aside. absurd (h (digits aside, omega (arith, decimal_nonempty aside.0 (wide aside.0 aside.1), ap length aside.2), omega (arith, aside.1, ap (digits_value 10) aside.2, digits_value-decimal own aside.0 (wide aside.0 aside.1)))))
  where
    digits : IsAsideName name → AllDigits 10 name
    digits aside = let P : List ℕ → Type 0 = λ x. AllDigits 10 x in subst P aside.2 (digits_decimal own aside.0 (wide aside.0 aside.1))

pub parsed : {E : Type 0} (name : List ℕ) (r : Result ℕ E) → ((get_or name 0 0 ≡ 43) ⊎ ((get_or name 0 0 ≡ 48) × (1 < length name)) → ⊥)
    → ParsesUnsigned 32 10 name r → (is_ok r ≡ true → IsAsideName name) × (IsAsideName name → is_ok r ≡ true)
parsed name r plain h = told name r (λ z l. plain (inr (z, l))) (parse_plain own 32 name r h (λ plus. plain (inl plus)))
