-- What `moments` reads as a cutoff is what a word stands for as one.
use Rattle.std.proofs.Common.{◌≡◌, ℕ, ◌-◌, ◌^◌, ◌/◌, ◌==◌, Bool, true, false, cond, length, drop, Result, Ok, Err, refl, arith}
use Rattle.std.specs.Prelude.{ℤ, pos, negsuc, ◌<ℤ◌, not, ◌&&◌, nat_le, slice_index, MatchBool, MatchResult}
use Rattle.std.specs.List.{list_all}
use Rattle.std.specs.Char.{is_ascii_digit}
use Rattle.std.specs.Str.Parse.{digits_value}
use Rattle.std.proofs.lemmas.Bool.{and_parts, and_from, le-leb, leb-true}
use Rattle.std.proofs.lemmas.Bool.Decides.{nat_tests}
use Rattle.std.proofs.lemmas.Int.{ints}
use Rattle.jiff.specs.Words.{parse_timestamp, Error}
use Rattle.moments.specs.declared.cutoffs.CutoffFault.{CutoffFault}
use Rattle.moments.specs.declared.cutoffs.CutoffFault.TheVariants as why
use Rattle.moments.specs.Cutoffs.{IsMicros, RefusesInstant, IsNumberText, IsNumber, RefusesNumber, StandsFor, Refuses}
use Rattle.script_values.specs.declared.kinds.ScriptKind.{ScriptKind}
use Rattle.script_values.specs.declared.kinds.ScriptKind.TheVariants as k
use Rattle.script_values.specs.Words.{Text}
use Rattle.script_values.specs.Values.{is_digits, is_number, number_of, micros_of, micros_number_of, cutoff_of}
use Rattle.script_values.proofs.Digits.{own}
use Rattle.script_values.proofs.Fills.{numeral}

-- what a word stands for is what was read, and `number` where it was refused
abbrev pub IsGiven : Result ℕ ScriptKind → Result ℕ CutoffFault → Type 0
IsGiven value r = MatchResult r (λ micros. Ok micros ≡ value) (λ _. Err k.Number ≡ value)

-- an instant

at_instant : (parsed : Result ℤ Error) (nanos micros : ℕ) → parsed ≡ Ok (pos nanos) → micros ≡ nanos / 1000 → Ok micros ≡ micros_of parsed
at_instant parsed nanos micros is same = rw (is, same) refl

no_instant : (parsed : Result ℤ Error) (e : Error) → parsed ≡ Err e → Err k.Number ≡ micros_of parsed
no_instant parsed e is = rw is refl

negative : (nanos : ℤ) → nanos <ℤ pos 0 → Err k.Number ≡ micros_of (Ok nanos)
negative (pos n) before = absurd (omega (arith, ints, before))
negative (negsuc n) before = refl

early_instant : (parsed : Result ℤ Error) (nanos : ℤ) → parsed ≡ Ok nanos → nanos <ℤ pos 0 → Err k.Number ≡ micros_of parsed
early_instant parsed nanos is before = rw is (negative nanos before)

instant : (text : Text) (r : Result ℕ CutoffFault) → MatchResult r (IsMicros text) (RefusesInstant text) → IsGiven (micros_of (parse_timestamp text)) r
instant text (Ok micros) h = at_instant (parse_timestamp text) h.0 micros h.1 h.2
instant text (Err why.Number) h = absurd h
instant text (Err why.Instant) h = no_instant (parse_timestamp text) h.0 h.1
instant text (Err why.Early) h = early_instant (parse_timestamp text) h.0 h.1 h.2

-- a number

is_short_number : (w : Text) → IsNumberText w → (nat_le (length w) 20 ≡ true) × (is_number 0 (2 ^ 64 - 1) w ≡ true)
is_short_number w h =
    let digits : is_digits w ≡ true = and_from (not (length w == 0)) (list_all is_ascii_digit w) (grind (arith, nat_tests, h.0.0)) (own.from w h.0.1) in
    let least : nat_le 0 (digits_value 10 w) ≡ true = le-leb 0 (digits_value 10 w) (omega arith) in
    let most : nat_le (digits_value 10 w) (2 ^ 64 - 1) ≡ true = le-leb (digits_value 10 w) (2 ^ 64 - 1) (omega (arith, h.2)) in
    (le-leb (length w) 20 h.1, and_from (is_digits w && nat_le 0 (digits_value 10 w)) (nat_le (digits_value 10 w) (2 ^ 64 - 1)) (and_from (is_digits w) (nat_le 0 (digits_value 10 w)) digits least) most)

number_text : (w : Text) → nat_le (length w) 20 ≡ true → is_number 0 (2 ^ 64 - 1) w ≡ true → IsNumberText w
number_text w short all =
    let most = and_parts (is_digits w && nat_le 0 (digits_value 10 w)) (nat_le (digits_value 10 w) (2 ^ 64 - 1)) all in
    let least = and_parts (is_digits w) (nat_le 0 (digits_value 10 w)) most.0 in
    (numeral w least.0, leb-true (length w) 20 short, omega (arith, leb-true (digits_value 10 w) (2 ^ 64 - 1) most.1))

-- a value behind two tests
abbrev tested : Bool → Bool → ℕ → Result ℕ ScriptKind
tested short all value = cond short (cond all (Ok value) (Err k.Number)) (Err k.Number)

taken_value : (short all : Bool) (value micros : ℕ) → short ≡ true → all ≡ true → micros ≡ value → Ok micros ≡ tested short all value
taken_value short all value micros p q same = rw (p, q, same) refl

refused_value : (short all : Bool) (value : ℕ) → (short ≡ true → all ≡ true → ⊥) → Err k.Number ≡ tested short all value
refused_value true true value h = absurd (h refl refl)
refused_value true false value h = refl
refused_value false all value h = refl

number : (w : Text) (r : Result ℕ CutoffFault) → MatchResult r (IsNumber w) (RefusesNumber w) → IsGiven (micros_number_of w) r
unfolding number_of
number w (Ok micros) h =
    let tests = is_short_number w h.0 in
    taken_value (nat_le (length w) 20) (is_number 0 (2 ^ 64 - 1) w) (digits_value 10 w) micros tests.0 tests.1 h.1
number w (Err why.Number) h = refused_value (nat_le (length w) 20) (is_number 0 (2 ^ 64 - 1) w) (digits_value 10 w) (λ short all. h (number_text w short all))
number w (Err why.Instant) h = absurd h
number w (Err why.Early) h = absurd h

-- either, by the first byte
by_first : (w : Text) (at : Bool) (r : Result ℕ CutoffFault) → MatchResult r (λ micros. MatchBool at (IsMicros (drop 1 w) micros) (IsNumber w micros)) (λ fault. MatchBool at (RefusesInstant (drop 1 w) fault) (RefusesNumber w fault)) → IsGiven (cond at (micros_of (parse_timestamp (drop 1 w))) (micros_number_of w)) r
by_first w true (Ok micros) h = instant (drop 1 w) (Ok micros) h
by_first w true (Err fault) h = instant (drop 1 w) (Err fault) h
by_first w false (Ok micros) h = number w (Ok micros) h
by_first w false (Err fault) h = number w (Err fault) h

pub read_cutoff : (w : Text) (r : Result ℕ CutoffFault) → MatchResult r (StandsFor w) (Refuses w) → IsGiven (cutoff_of w) r
unfolding cutoff_of
read_cutoff w r h = by_first w (slice_index w 0 == 64) r h
