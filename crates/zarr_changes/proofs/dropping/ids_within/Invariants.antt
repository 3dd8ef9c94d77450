use Rattle.std.proofs.Common.{◌≡◌, ◌||◌, length}
use Rattle.ice_ids.specs.declared.Id8.{Id8}
use Rattle.zarr_tree.specs.Touched.{lists}
use Rattle.zarr_changes.specs.inside.Own.{within_rows}
use Rattle.zarr_changes.proofs.dropping.ids_within.Given as goal

abbrev pub invariant-loop-path : goal.invariant-loop-path
invariant-loop-path g l = (id : Id8) → (lists l.ids id || within_rows l.overlay l.of id) ≡ within_rows l.fn.overlay l.of id

abbrev pub decreases-loop-path : goal.decreases-loop-path
decreases-loop-path g l = length l.overlay
