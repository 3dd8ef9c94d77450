use Rattle.std.proofs.Common.{◌≡◌, length}
use Rattle.std.specs.FinMap.{empty, entries}
use Rattle.zarr_tree.specs.Changes.{is_gone, patched}
use Rattle.tree_model.specs.Models.{changes_of}
use Rattle.tree_model.specs.inside.Putting.{put_kept}
use Rattle.tree_model.proofs.changes.Changes.own_nodes.Given as goal

abbrev pub invariant-loop-path : goal.invariant-loop-path
invariant-loop-path l =
    put_kept (is_gone (changes_of l.self).dropped l.nodes) (patched (changes_of l.self).metas) l.own l.rows
    ≡ put_kept (is_gone (changes_of l.self).dropped l.nodes) (patched (changes_of l.self).metas) empty (entries l.nodes)

abbrev pub decreases-loop-path : goal.decreases-loop-path
decreases-loop-path l = length l.rows
