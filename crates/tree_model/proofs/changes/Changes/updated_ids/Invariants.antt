use Rattle.std.proofs.Common.{◌≡◌, ◌++◌, ◌&&◌, is_some, length}
use Rattle.std.specs.FinMap.{get, entries}
use Rattle.zarr_tree.specs.Changes.{has_id}
use Rattle.zarr_tree.specs.Held.{meta_in}
use Rattle.tree_model.specs.Models.{held_of}
use Rattle.tree_model.specs.inside.Listing.{kind_of, ids_where}
use Rattle.tree_model.proofs.changes.Changes.updated_ids.Given as goal

abbrev pub invariant-loop-path : goal.invariant-loop-path
invariant-loop-path l =
    l.ids ++ ids_where (λ row. (has_id row.1.id (get l.under row.0) && is_some (meta_in (held_of l.self).metas row.1.id)) && kind_of l.arrays row.1.text) l.rows
    ≡ ids_where (λ row. (has_id row.1.id (get l.under row.0) && is_some (meta_in (held_of l.self).metas row.1.id)) && kind_of l.arrays row.1.text) (entries l.nodes)

abbrev pub decreases-loop-path : goal.decreases-loop-path
decreases-loop-path l = length l.rows
