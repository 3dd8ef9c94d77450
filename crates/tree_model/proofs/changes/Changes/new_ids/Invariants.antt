use Rattle.std.proofs.Common.{◌≡◌, ◌++◌, length}
use Rattle.std.specs.FinMap.{entries}
use Rattle.tree_model.specs.inside.Listing.{kind_of, ids_where}
use Rattle.tree_model.proofs.changes.Changes.new_ids.Given as goal

abbrev pub invariant-loop-found : goal.invariant-loop-found
invariant-loop-found l = l.ids ++ ids_where (λ row. kind_of l.arrays row.1.text) l.rows ≡ ids_where (λ row. kind_of l.arrays row.1.text) (entries l.self.added)

abbrev pub decreases-loop-found : goal.decreases-loop-found
decreases-loop-found l = length l.rows
