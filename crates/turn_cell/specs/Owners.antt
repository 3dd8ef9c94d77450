-- Owner numbers. All of it is this project's own.
use Rattle.std.specs.Prelude.{◌≡◌, ℕ, ◌<◌, ◌≤◌, Some, None, IfSome}
use Rattle.turn_cell.specs.declared.known.Owners.{Owners}

-- n is one of the owner numbers
abbrev pub IsOwner : Owners → ℕ → Type 0
IsOwner owners n = (owners.low ≤ n) × IfSome owners.end (λ end. n < end)

abbrev pub all_owners : Owners
all_owners = record { low = 0; end = None }

abbrev pub no_owners : Owners
no_owners = record { low = 0; end = Some 0 }

-- those below a number, and those from it on
abbrev pub lower_part : ℕ → Owners → Owners
lower_part at owners = record { low = owners.low; end = Some at }

abbrev pub upper_part : ℕ → Owners → Owners
upper_part at owners = record { low = at; end = owners.end }

-- the second range begins where the first one ends
abbrev pub Adjoins : Owners → Owners → Type 0
Adjoins a b = a.end ≡ Some b.low

abbrev pub united : Owners → Owners → Owners
united a b = record { low = a.low; end = b.end }

-- no number is in both
abbrev pub AreApart : Owners → Owners → Type 0
AreApart a b = (n : ℕ) → IsOwner a n → ¬ IsOwner b n
