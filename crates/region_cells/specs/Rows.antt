-- Numbers that stand side by side.
use Rattle.std.specs.Prelude.{◌≡◌, ℕ, ◌≤◌, ◌<◌, ℤ, pos, Bool, true, List, length, get_or}
use Rattle.zarr_meta.specs.declared.kinds.IntKind.{IntKind}
use Rattle.zarr_meta.specs.Kinds.{is_in_range}
use Rattle.region_cells.specs.Numbers.{number_of, bytes_of, element_at}

-- each is one of the type
abbrev pub AreInRange : IntKind → List ℤ → Type 0
AreInRange kind row = (k : ℕ) → k < length row → is_in_range kind (get_or row k (pos 0)) ≡ true

-- they are those of the first elements
abbrev pub ReadsRow : IntKind → (big : Bool) → (bytes : List ℕ) → List ℤ → Type 0
ReadsRow kind big bytes new =
    (k : ℕ) → k < length new → get_or new k (pos 0) ≡ number_of kind big (element_at kind k bytes)

-- the first elements have them, and each other one stays
pub record WritesRow (kind : IntKind) (big : Bool) (row : List ℤ) (old new : List ℕ) : Type 0 where
  pub same_length : length new ≡ length old
  pub inside : (k : ℕ) → k < length row
      → element_at kind k new ≡ bytes_of kind big (get_or row k (pos 0))
  pub outside : (k : ℕ) → length row ≤ k → element_at kind k new ≡ element_at kind k old
