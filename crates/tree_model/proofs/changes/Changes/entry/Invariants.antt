use Rattle.std.proofs.Common.{◌≡◌, drop}
use Rattle.zarr_tree.specs.Held.{entry_in}
use Rattle.tree_model.proofs.changes.Changes.entry.Given as goal

abbrev pub invariant-loop-row : goal.invariant-loop-row
invariant-loop-row l = entry_in (drop l.row-index l.self.chunks.items) l.id l.index ≡ entry_in l.self.chunks.items l.id l.index
