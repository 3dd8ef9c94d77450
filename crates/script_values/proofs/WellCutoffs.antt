-- A cutoff that was read has 64 bits.
use Rattle.std.proofs.Common.{◌≡◌, ℕ, ◌-◌, ◌^◌, ◌<◌, ◌/◌, ◌==◌, false, length, drop, Result, Ok, Err, arith}
use Rattle.std.specs.Prelude.{ℤ, pos, negsuc, neg_ℤ, ◌≤ℤ◌, int_lt, nat_le, slice_index, ◌||◌, IfOk}
use Rattle.std.proofs.lemmas.Bool.{cond_both, or_parts}
use Rattle.std.proofs.lemmas.Int.{ints}
use Rattle.jiff.specs.Words.{parse_timestamp, Error, DateTimeParts, full, temporal_datetime}
use Rattle.jiff_fmt.specs.Reader.{◌>>=◌}
use Rattle.jiff_fmt.specs.Temporal.{instant, to_timestamp}
use Rattle.script_values.specs.declared.kinds.ScriptKind.{ScriptKind}
use Rattle.script_values.specs.declared.kinds.ScriptKind.TheVariants as k
use Rattle.script_values.specs.Words.{Text}
use Rattle.script_values.specs.Values.{number_of, micros_of, micros_number_of, cutoff_of}
use Rattle.script_values.proofs.Inversions.{number_ok}

abbrev pub IsCutoff : ℕ → Type 0
IsCutoff cutoff = cutoff < 2 ^ 64

-- nanoseconds of the last instant that has a timestamp
abbrev most : ℕ
most = 253402207200999999999

abbrev IsLow : ℤ → Type 0
IsLow nanos = nanos ≤ℤ pos most

next_low : {A : Type 0} (r : Result A Error) (f : A → Result ℤ Error) → ((a : A) → IfOk (f a) IsLow) → IfOk (r >>= f) IsLow
next_low (Ok a) f low = low a
next_low (Err e) f low = tt

instant_low : (nanos : ℤ) → IfOk (instant nanos) IsLow
instant_low nanos =
    cond_both (int_lt nanos (neg_ℤ (pos 377705023201000000000)) || int_lt (pos most) nanos) _ _ (λ (r : Result ℤ Error). IfOk r IsLow) (λ _. tt)
    (λ tests. let late : int_lt (pos most) nanos ≡ false = (or_parts (int_lt nanos (neg_ℤ (pos 377705023201000000000))) (int_lt (pos most) nanos) tests).1 in omega (arith, ints, late))

timestamp_low : (parts : DateTimeParts) → IfOk (to_timestamp parts) IsLow
timestamp_low parts = search (next_low, instant_low)

parsed_low : (text : Text) → IfOk (parse_timestamp text) IsLow
parsed_low text = next_low (full (temporal_datetime text)) to_timestamp timestamp_low

micros_ok : (r : Result ℤ Error) (cutoff : ℕ) → IfOk r IsLow → micros_of r ≡ Ok cutoff → IsCutoff cutoff
micros_ok (Ok (pos nanos)) cutoff low h = let same : nanos / 1000 ≡ cutoff = cc in omega (arith, ints, low, same)
micros_ok (Ok (negsuc nanos)) cutoff low h = absurd (cc)
micros_ok (Err e) cutoff low h = absurd (cc)

micros_number_ok : (w : Text) (cutoff : ℕ) → micros_number_of w ≡ Ok cutoff → IsCutoff cutoff
micros_number_ok w cutoff h =
    cond_both (nat_le (length w) 20) (number_of 0 (2 ^ 64 - 1) w) (Err k.Number) (λ (r : Result ℕ ScriptKind). r ≡ Ok cutoff → IsCutoff cutoff)
    (λ _ e. omega (arith, (number_ok 0 (2 ^ 64 - 1) w cutoff e).1))
    (λ _ e. absurd (cc))
    h

pub cutoff_ok : (w : Text) (cutoff : ℕ) → cutoff_of w ≡ Ok cutoff → IsCutoff cutoff
unfolding cutoff_of
cutoff_ok w cutoff h =
    cond_both (slice_index w 0 == 64) (micros_of (parse_timestamp (drop 1 w))) (micros_number_of w) (λ (r : Result ℕ ScriptKind). r ≡ Ok cutoff → IsCutoff cutoff)
    (λ _ e. micros_ok (parse_timestamp (drop 1 w)) cutoff (parsed_low (drop 1 w)) e)
    (λ _ e. micros_number_ok w cutoff e)
    h
