-- Numbers that are drawn by a linear congruential generator modulo 2^64 (own).
use Rattle.std.specs.Prelude.{ℕ, zero, suc, ◌+◌, ◌*◌, ◌/◌, ◌%◌, ◌^◌}

abbrev pub next_state : ℕ → ℕ
next_state x = (x * 6364136223846793005 + 1442695040888963407) % 2 ^ 64

-- the state after so many draws
unfoldable pub after : ℕ → ℕ → ℕ
after zero x = x
after (suc count) x = next_state (after count x)

-- the number below m that is drawn where the generator then stands at x
abbrev pub drawn : ℕ → ℕ → ℕ
drawn m x = (x / 2 ^ 33) % m
