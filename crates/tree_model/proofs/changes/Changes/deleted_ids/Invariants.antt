use Rattle.std.proofs.Common.{◌≡◌, ◌++◌, ◌&&◌, length}
use Rattle.std.specs.FinMap.{entries}
use Rattle.zarr_tree.specs.Changes.{is_gone}
use Rattle.tree_model.specs.Models.{changes_of}
use Rattle.tree_model.specs.inside.Listing.{kind_of, ids_where}
use Rattle.tree_model.proofs.changes.Changes.deleted_ids.Given as goal

abbrev pub invariant-loop-path : goal.invariant-loop-path
invariant-loop-path l =
    l.ids ++ ids_where (λ row. is_gone (changes_of l.self).dropped l.nodes row.0 && kind_of l.arrays row.1.text) l.rows
    ≡ ids_where (λ row. is_gone (changes_of l.self).dropped l.nodes row.0 && kind_of l.arrays row.1.text) (entries l.nodes)

abbrev pub decreases-loop-path : goal.decreases-loop-path
decreases-loop-path l = length l.rows
