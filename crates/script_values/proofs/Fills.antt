-- What `parse` reads of a fill value.
use Rattle.std.proofs.Common.{◌≡◌, ℕ, ◌-◌, ◌^◌, ◌<◌, Bool, true, false, cond, List, [], ◌∷◌, length, drop, Result, Ok, Err, refl, ap, arith}
use Rattle.std.specs.Prelude.{ℤ, pos, negsuc, not, ◌&&◌, ◌==◌, MatchResult, FitsSigned}
use Rattle.std.specs.List.{list_all}
use Rattle.std.specs.Char.{is_ascii_digit}
use Rattle.std.specs.Int.{w128}
use Rattle.std.specs.Str.Parse.{IsNumeral, ParsesSigned, starts_with_minus, without_leading_sign, signed_digits_value}
use Rattle.std.proofs.lemmas.Bool.{and_parts, and_from, le-leb, leb-true}
use Rattle.std.proofs.lemmas.Bool.Decides.{nat_tests}
use Rattle.std.proofs.lemmas.Str.Parse.{not_in_digits, without_leading_plus_none}
use Rattle.script_values.specs.declared.kinds.ScriptKind.{ScriptKind}
use Rattle.script_values.specs.declared.kinds.ScriptKind.TheVariants as k
use Rattle.script_values.specs.Words.{Text}
use Rattle.script_values.specs.Values.{is_digits, magnitude, is_signed, fill_of}
use Rattle.script_values.proofs.Digits.{own}

-- a text that no `-` begins
pub no_minus : (w : Text) → ((rest : Text) → w ≡ 45 ∷ rest → ⊥) → w ≡ magnitude w
no_minus [] none = refl
no_minus (b ∷ bs) none = by_first (b == 45) refl
  where
    by_first : (t : Bool) → (b == 45) ≡ t → ◌≡◌ {A = Text} (b ∷ bs) (cond (b == 45) bs (b ∷ bs))
    by_first true e =
        let is : b ≡ 45 = grind (arith, nat_tests) in
        absurd (none bs (ap (λ (x : ℕ). x ∷ bs) is))
    by_first false e = rw e refl

pub numeral : (ds : List ℕ) → is_digits ds ≡ true → IsNumeral 10 ds
numeral ds d =
    let parts = and_parts (not (length ds == 0)) (list_all is_ascii_digit ds) d in
    let some : 0 < length ds = grind (arith, nat_tests) in
    (some, own.to ds parts.1)

unsigned_numeral : (w : Text) (minus : Bool) → starts_with_minus w ≡ minus → is_digits (magnitude w) ≡ true → IsNumeral 10 (without_leading_sign w)
unsigned_numeral w true e d = rw e (numeral (drop 1 w) (rw e at d))
unsigned_numeral w false e d =
    let digits = rw e at d in
    let parts = and_parts (not (length w == 0)) (list_all is_ascii_digit w) digits in
    let some : 0 < length w = (numeral w digits).0 in
    rw (e, without_leading_plus_none w (not_in_digits own w 43 parts.1 (λ r. omega arith) 0 some)) (numeral w digits)

fits_signed : (z : ℤ) → FitsSigned w128 z → is_signed z ≡ true
fits_signed (pos n) f = le-leb n (2 ^ 127 - 1) (omega (arith, f.sfits))
fits_signed (negsuc n) f = and_from _ _ (le-leb n (2 ^ 127 - 1) (omega (arith, f.sfits))) refl

signed_fits : (z : ℤ) → is_signed z ≡ true → FitsSigned w128 z
signed_fits (pos n) h = record { sfits = omega (arith, leb-true n (2 ^ 127 - 1) h) }
signed_fits (negsuc n) h = record { sfits = omega (arith, leb-true n (2 ^ 127 - 1) (and_parts _ _ h).0) }

-- a test of two parts, of which the first holds
abbrev Tested : Bool → Bool → ℤ → Result ℤ ScriptKind → Type 0
Tested a b value r = r ≡ cond (a && b) (Ok value) (Err k.Number)

taken_value : (a b : Bool) (value z : ℤ) → a ≡ true → b ≡ true → z ≡ value → Tested a b value (Ok z)
taken_value a b value z p q e = rw (p, q, e) refl

refused_value : (a b : Bool) (value : ℤ) → a ≡ true → (b ≡ true → ⊥) → Tested a b value (Err k.Number)
refused_value a true value p q = absurd (q refl)
refused_value a false value p q = rw p refl

pub read_fill : {E : Type 0} (w : Text) (r : Result ℤ E) → ParsesSigned w128 10 w r → is_digits (magnitude w) ≡ true → MatchResult r (λ z. Ok z ≡ fill_of w) (λ _. Err k.Number ≡ fill_of w)
unfolding fill_of
read_fill w (Ok z) h d = taken_value _ _ (signed_digits_value 10 w) z d (fits_signed _ h.0.1) h.1
read_fill w (Err e) h d =
    refused_value _ _ (signed_digits_value 10 w) d
    (λ fits. h (unsigned_numeral w (starts_with_minus w) refl d, signed_fits _ fits))
