-- The laws of paths on which the crates above stand.
use Rattle.std.specs.Prelude.{◌≡◌, ◌≢◌, ℕ, ◌<◌, true, List, length, ◌↔◌}
use Rattle.std.specs.declared.cmp.Ordering.TheVariants.{Equal}
use Rattle.std.specs.Cmp.{IsTotalOrder}
use Rattle.zarr_path.specs.Paths.{is_path, root, path_cmp, is_within, is_beneath, parent_of}

-- a path is within itself
abbrev pub WithinReflexive : Type 0
WithinReflexive = (p : List ℕ) → is_within p p ≡ true

-- what is within a path that is within another is within that
abbrev pub WithinTransitive : Type 0
WithinTransitive =
    (p q r : List ℕ) → is_within p q ≡ true → is_within q r ≡ true → is_within p r ≡ true

-- a path is within its parent, which is a path
abbrev pub ParentLaw : Type 0
ParentLaw =
    (p : List ℕ) → is_path p ≡ true
    → (is_within (parent_of p) p ≡ true) × (is_path (parent_of p) ≡ true)

-- a path is beneath p exactly where it isn't `/` and its parent is within p; and
-- the parent is then the shorter
pub record IsBeneath (p q : List ℕ) : Type 0 where
  pub not_root : q ≢ root
  pub parent : is_within p (parent_of q) ≡ true
  pub shorter : length (parent_of q) < length q

abbrev pub BeneathLaw : Type 0
BeneathLaw = (p q : List ℕ) → is_path p ≡ true → is_path q ≡ true
    → ((is_beneath p q ≡ true) ↔ IsBeneath p q)
    × (q ≢ root → is_within p (parent_of q) ≡ true → IsBeneath p q)

-- the order of paths by their bytes is total, and ties only what is the same
abbrev pub OrderLaw : Type 0
OrderLaw = IsTotalOrder path_cmp × ((p q : List ℕ) → (path_cmp p q ≡ Equal) ↔ (p ≡ q))
