-- What a text stands for as a cutoff (own; instants as `jiff` reads them).
use Rattle.std.specs.Prelude.{ℕ, ◌≡◌, ◌<◌, ◌≤◌, ◌/◌, ◌^◌, ℤ, pos, ◌<ℤ◌, List}
use Rattle.std.specs.Prelude.{length, drop, Ok, Err, slice_index, ◌==◌, MatchBool}
use Rattle.std.specs.Str.Parse.{IsNumeral, digits_value}
use Rattle.jiff.specs.Words.{parse_timestamp, Error}
use Rattle.moments.specs.declared.cutoffs.CutoffFault.{CutoffFault}
use Rattle.moments.specs.declared.cutoffs.CutoffFault.TheVariants.{Number, Instant, Early}

-- the microseconds since 1970, rounded down, of the instant that jiff reads the text as
abbrev pub IsMicros : List ℕ → ℕ → Type 0
IsMicros text micros =
    (nanos : ℕ) × (parse_timestamp text ≡ Ok (pos nanos)) × (micros ≡ nanos / 1000)

abbrev pub RefusesInstant : List ℕ → CutoffFault → Type 0
RefusesInstant text Number = ⊥
RefusesInstant text Instant = (e : Error) × (parse_timestamp text ≡ Err e)
RefusesInstant text Early = (nanos : ℤ) × (parse_timestamp text ≡ Ok nanos) × (nanos <ℤ pos 0)

-- 1 to 20 decimal digits within 64 bits
abbrev pub IsNumberText : List ℕ → Type 0
IsNumberText text = IsNumeral 10 text × (length text ≤ 20) × (digits_value 10 text < 2 ^ 64)

abbrev pub IsNumber : List ℕ → ℕ → Type 0
IsNumber text micros = IsNumberText text × (micros ≡ digits_value 10 text)

abbrev pub RefusesNumber : List ℕ → CutoffFault → Type 0
RefusesNumber text Number = ¬ IsNumberText text
RefusesNumber text Instant = ⊥
RefusesNumber text Early = ⊥

-- a text that begins with `@` (64) is an instant, any other one a number
abbrev pub StandsFor : List ℕ → ℕ → Type 0
StandsFor text micros =
    MatchBool (slice_index text 0 == 64) (IsMicros (drop 1 text) micros) (IsNumber text micros)

abbrev pub Refuses : List ℕ → CutoffFault → Type 0
Refuses text fault =
    MatchBool (slice_index text 0 == 64) (RefusesInstant (drop 1 text) fault)
    (RefusesNumber text fault)
