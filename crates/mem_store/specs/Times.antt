-- The time of an operation.
use Rattle.std.specs.Prelude.{◌≡◌, ℕ, max}

-- the greater of the moment that the clock gave and the time of the last operation
pub record IsTime {C : Type 0} (gives : C → ℕ → C → Type 0) (old new : C)
    (last time : ℕ) : Type 0 where
  pub moment : ℕ
  pub given : gives old moment new
  pub is : time ≡ max moment last
