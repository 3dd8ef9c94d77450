use Rattle.std.proofs.Common.{◌≡◌, ◌&&◌, length}
use Rattle.std.specs.List.{list_any}
use Rattle.zarr_path.specs.Paths.{is_beneath}
use Rattle.zarr_tree.specs.Touched.{lists_new}
use Rattle.tree_model.specs.inside.Conflicting.{has_new_beneath}
use Rattle.tree_model.proofs.sides.has_new_beneath.Given as goal

abbrev pub invariant-loop-path : goal.invariant-loop-path
invariant-loop-path l = list_any (λ row. is_beneath l.of row.0 && lists_new l.lists row.1.id) l.rows ≡ has_new_beneath l.lists l.nodes l.of

abbrev pub decreases-loop-path : goal.decreases-loop-path
decreases-loop-path l = length l.rows
