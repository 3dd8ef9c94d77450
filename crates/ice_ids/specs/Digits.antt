-- Numbers and their digits in a base, the most significant first.
use Rattle.std.specs.Prelude.{ℕ, zero, suc, ◌/◌, ◌%◌, List, [], ◌∷◌, ◌++◌}

-- that many digits of a number in a base; what stands above them is left out
unfoldable pub digits_in : ℕ → ℕ → ℕ → List ℕ
digits_in base zero n = []
digits_in base (suc count) n = digits_in base count (n / base) ++ n % base ∷ []
