use Rattle.std.proofs.Common.{◌≡◌, ◌++◌, length}
use Rattle.std.specs.FinMap.{entries}
use Rattle.tree_model.specs.Models.{held_of}
use Rattle.tree_model.specs.inside.Listing.{chunks_where}
use Rattle.tree_model.proofs.changes.Changes.chunks_in.Given as goal

abbrev pub invariant-loop-found : goal.invariant-loop-found
invariant-loop-found l = l.arrays ++ chunks_where (held_of l.self).chunks l.rows ≡ chunks_where (held_of l.self).chunks (entries l.under)

abbrev pub decreases-loop-found : goal.decreases-loop-found
decreases-loop-found l = length l.rows
