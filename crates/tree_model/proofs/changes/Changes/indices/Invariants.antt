use Rattle.std.proofs.Common.{◌≡◌, ◌++◌, drop}
use Rattle.zarr_tree.specs.Held.{indices_of}
use Rattle.tree_model.proofs.changes.Changes.indices.Given as goal

abbrev pub invariant-loop-row : goal.invariant-loop-row
invariant-loop-row l = l.indices ++ indices_of (drop l.row-index l.self.chunks.items) l.id ≡ indices_of l.self.chunks.items l.id
