use Rattle.std.proofs.Common.{◌≡◌, ◌++◌}
use Rattle.std.specs.Map.{keys_of}
use Rattle.zarr_tree.specs.Touched.{IdsAscend}
use Rattle.zarr_changes.specs.inside.Kept.{array_rows}
use Rattle.zarr_changes.proofs.entries.Entries.copy.Given as goal

-- the arrays so far, and those that are left, are all
abbrev pub invariant-loop-id : goal.invariant-loop-id
invariant-loop-id l = (array_rows l.arrays.entries ++ array_rows l.id-iterator ≡ array_rows l.initial.id-iterator) × IdsAscend (keys_of l.arrays.entries)
