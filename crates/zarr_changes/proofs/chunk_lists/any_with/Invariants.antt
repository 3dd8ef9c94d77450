use Rattle.std.proofs.Common.{◌≡◌, length}
use Rattle.std.specs.List.{list_any}
use Rattle.zarr_tree.specs.Nodes.{is_array}
use Rattle.zarr_changes.specs.inside.Touching.{with_entries}
use Rattle.zarr_changes.proofs.chunk_lists.any_with.Given as goal

abbrev pub invariant-loop-found : goal.invariant-loop-found
invariant-loop-found g l =
    list_any (λ row. is_array row.1.text) (with_entries l.entries l.overlay) ≡ list_any (λ row. is_array row.1.text) (with_entries l.entries l.fn.overlay)

abbrev pub decreases-loop-found : goal.decreases-loop-found
decreases-loop-found g l = length l.overlay
