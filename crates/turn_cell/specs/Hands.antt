-- What a seat of the cell's table holds.
use Rattle.std.specs.Prelude.{ℕ, Bool, true, false, List, [], ◌∷◌, Option, None}

-- while it has the turn, the one slot, which is empty
abbrev pub hands : {T : Type 0} → Bool → List (ℕ × Option T)
hands true = (0, None) ∷ []
hands false = []
