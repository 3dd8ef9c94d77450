-- The arrays of a commit: the new lists of those that are written, and those that are left.
use Rattle.std.specs.Prelude.{List}
use Rattle.zarr_changes.specs.declared.chunks.ChangedArray.{ChangedArray}
use Rattle.changed_snapshot.specs.declared.new_snapshot.NewList.{NewList}

pub record ArraysState : Type 0 where
  pub news : List NewList
  pub left : List ChangedArray
