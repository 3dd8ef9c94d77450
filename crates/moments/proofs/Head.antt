-- On the first byte of a text.
use Rattle.std.proofs.Common.{◌≡◌, ◌≢◌, ◌==◌, ℕ, List, [], ◌∷◌, false, ap, arith}
use Rattle.std.specs.Prelude.{slice_index, Result, Ok, Err, MatchResult}
use Rattle.moments.specs.Cutoffs.{IsNumber, RefusesNumber, StandsFor, Refuses}
use Rattle.moments.specs.declared.cutoffs.CutoffFault.{CutoffFault}

-- a text that doesn't begin with c has another first byte, or none
pub not_first : (c : ℕ) (bs : List ℕ) → 0 ≢ c → ((rest : List ℕ) → bs ≢ c ∷ rest) → (slice_index bs 0 == c) ≡ false
not_first c [] h other = grind arith
not_first c (b ∷ bs) h other = let ne : b ≢ c = λ e. other bs (ap (λ x. x ∷ bs) e) in grind (arith, ne)

pub by_number : (bs : List ℕ) (r : Result ℕ CutoffFault) → ((rest : List ℕ) → bs ≢ 64 ∷ rest) → MatchResult r (IsNumber bs) (RefusesNumber bs) → MatchResult r (StandsFor bs) (Refuses bs)
by_number bs (Ok micros) other h = let first = not_first 64 bs (omega arith) other in rw first h
by_number bs (Err fault) other h = let first = not_first 64 bs (omega arith) other in rw first h
