use Rattle.std.proofs.Common.{◌≡◌, drop, map}
use Rattle.zarr_tree.specs.Held.{meta_in}
use Rattle.tree_model.proofs.changes.Changes.other_meta.Given as goal

abbrev pub invariant-loop-row : goal.invariant-loop-row
invariant-loop-row l = meta_in (map (λ row. (row.0, row.1.text)) (drop l.row-index l.self.metas.items)) l.id ≡ meta_in (map (λ row. (row.0, row.1.text)) l.self.metas.items) l.id
