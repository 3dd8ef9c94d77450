-- Plans of calls that fail (own).
use Rattle.std.specs.Prelude.{ℕ, ◌==◌, List, find, Bool, Option, option_map}

-- What a plan says of the call with this number, where it is to fail: whether its operation is done
-- first. Where a number is planned twice, the first counts.
abbrev pub planned : List (ℕ × Bool) → ℕ → Option Bool
planned plan number =
    option_map (λ (call : ℕ × Bool). call.1) (find (λ (call : ℕ × Bool). call.0 == number) plan)
