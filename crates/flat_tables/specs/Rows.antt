-- Own: slots and rows of a file, in order, with the first fault.
use Rattle.std.specs.Prelude.{◌≡◌, ◌⊎◌, ℕ, zero, suc, ◌-◌, Option, Some, None}
use Rattle.std.specs.Prelude.{option_map, Result, Ok, Err, List, [], ◌∷◌, ◌++◌}
use Rattle.std.specs.Prelude.{length, slice_get, Bool, true, nat_lt, if◌then◌else◌}
use Rattle.std.specs.Ordering.{is_lt, nat_cmp}
use Rattle.std.specs.Cmp.Lexicographic.{slice_cmp}
use Rattle.flat_tables.specs.declared.fault.FlatFault.{FlatFault}
use Rattle.flat_tables.specs.declared.fault.FlatFault.TheVariants.{Missing}
use Rattle.flat_tables.specs.declared.fault.FileFault.{FileFault}
use Rattle.flat_tables.specs.declared.fault.FileFault.TheVariants.{Flat, Limit, Order, NoMemory}
use Rattle.flat_tables.specs.Step.{◌>>=◌}
use Rattle.flat_tables.specs.Places.{VectorIn}

-- a fault of the payload is one of the file
abbrev pub flat : {A : Type 0} → Result A FlatFault → Result A FileFault
flat (Ok x) = Ok x
flat (Err e) = Err (Flat e)

-- slot k must be there
abbrev pub required : {A : Type 0} → ℕ → Result (Option A) FlatFault → Result A FileFault
required k (Ok None) = Err (Flat (Missing k))
required k (Ok (Some x)) = Ok x
required k (Err e) = Err (Flat e)

-- a slot that may be absent, and then stands for this value
abbrev pub optional : {A : Type 0} → A → Result (Option A) FlatFault → Result A FileFault
optional x (Ok None) = Ok x
optional x (Ok (Some y)) = Ok y
optional x (Err e) = Err (Flat e)

-- a vector that may be absent, and then has no elements
abbrev pub optional_rows : {A : Type 0} → Result (Option VectorIn) FlatFault
    → (VectorIn → Result (List A) FileFault) → Result (List A) FileFault
optional_rows (Ok None) read = Ok []
optional_rows (Ok (Some v)) read = read v
optional_rows (Err e) read = Err (Flat e)

-- so many are no more than the limit
abbrev pub at_most : ℕ → ℕ → Result ℕ FileFault
at_most limit n = if nat_lt limit n then Err Limit else Ok n

-- n more rows behind those before, where each is what read finds behind the rows before it
unfoldable pub rows : {A : Type 0} → (List A → Result A FileFault) → List A → ℕ
    → Result (List A) FileFault
rows read before zero = Ok before
rows read before (suc n) = read before >>= λ x. rows read (before ++ x ∷ []) n

-- the next row is element number i, if i rows stand before it
abbrev pub each : {A : Type 0} → (ℕ → Result A FileFault) → List A → Result A FileFault
each f before = f (length before)

-- y stands after the key before, if there is one: lists of numbers, in the
-- order of their first difference
abbrev pub follows : Option (List ℕ) → List ℕ → Bool
follows None y = true
follows (Some x) y = is_lt (slice_cmp nat_cmp x y)

-- the last row's key
abbrev pub last_key : {A : Type 0} → (A → List ℕ) → List A → Option (List ℕ)
last_key key before = option_map key (slice_get before (length before - 1))

-- the next row, which must stand after the one before by its key
abbrev pub in_order : {A : Type 0} → (A → List ℕ) → ℕ → (List A → Result A FileFault) → List A
    → Result A FileFault
in_order key slot read before =
    read before
    >>= λ x. if follows (last_key key before) (key x) then Ok x
    else Err (Order slot (length before))

-- each row stands after the one before by its key, and the first after that key
abbrev pub Ascends : {A : Type 0} → (A → List ℕ) → Option (List ℕ) → List A → Type 0
Ascends key before [] = Unit {0}
Ascends key before (x ∷ xs) = (follows before (key x) ≡ true) × Ascends key (Some (key x)) xs

-- a call answered what is to be read: the value, as view sees it, or the same
-- fault; memory may run out anywhere
abbrev pub Reads : {X Y : Type 0} → (X → Y) → Result X FileFault → Result Y FileFault → Type 0
Reads view (Ok x) read = read ≡ Ok (view x)
Reads view (Err e) read = (e ≡ NoMemory) ⊎ (read ≡ Err e)
