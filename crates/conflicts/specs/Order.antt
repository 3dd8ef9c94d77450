-- The order of conflicts: by the bytes of their paths, then by the numbers of their
-- cases, then by their indices. (Own.)
use Rattle.std.specs.Prelude.{◌≡◌, ◌⊎◌, ℕ, ◌<◌, List, [], ◌∷◌, Option, Some, None, Contains}
use Rattle.std.specs.declared.cmp.Ordering.TheVariants.{Less}
use Rattle.zarr_path.specs.Paths.{path_cmp}
use Rattle.zarr_path.specs.Indices.{index_cmp}
use Rattle.zarr_tree.specs.Cases.{number}
use Rattle.zarr_tree.specs.declared.cases.Conflict.{Conflict}

-- no index stands before an index
abbrev pub IndexPrecedes : (a b : Option (List ℕ)) → Type 0
IndexPrecedes None None = ⊥
IndexPrecedes None (Some j) = Unit {0}
IndexPrecedes (Some i) None = ⊥
IndexPrecedes (Some i) (Some j) = index_cmp i j ≡ Less

abbrev pub ConflictPrecedes : (x y : Conflict) → Type 0
ConflictPrecedes x y =
    (path_cmp x.path y.path ≡ Less)
    ⊎ ((x.path ≡ y.path)
    × ((number x.case < number y.case) ⊎ ((x.case ≡ y.case) × IndexPrecedes x.index y.index)))

-- each one precedes all that stand behind it
abbrev pub Ascend : List Conflict → Type 0
Ascend [] = Unit {0}
Ascend (x ∷ xs) = ((y : Conflict) → Contains xs y → ConflictPrecedes x y) × Ascend xs
