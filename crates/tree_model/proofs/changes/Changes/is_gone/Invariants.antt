use Rattle.std.proofs.Common.{◌≡◌, ◌&&◌, length}
use Rattle.std.specs.List.{list_any}
use Rattle.zarr_path.specs.Paths.{is_within}
use Rattle.zarr_tree.specs.Changes.{is_gone}
use Rattle.zarr_tree.specs.Touched.{lists}
use Rattle.tree_model.proofs.changes.Changes.is_gone.Given as goal

abbrev pub invariant-loop-above : goal.invariant-loop-above
invariant-loop-above l = list_any (λ row. is_within row.0 l.path && lists l.self.dropped row.1.id) l.rows ≡ is_gone (lists l.self.dropped) l.nodes l.path

abbrev pub decreases-loop-above : goal.decreases-loop-above
decreases-loop-above l = length l.rows
