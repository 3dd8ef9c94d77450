use Rattle.std.proofs.Common.{◌≡◌, ◌||◌, drop}
use Rattle.std.specs.FinMap.{entries}
use Rattle.ice_ids.specs.declared.Id8.{Id8}
use Rattle.zarr_tree.specs.Touched.{lists}
use Rattle.repo_objects.specs.Trees.{nodes_in}
use Rattle.rebase.specs.inside.Working.{kept_among}
use Rattle.rebase.proofs.hiding.kept_ids.Given as goal

-- an id is in the set, or kept among the rows that are left, where it is kept at all
abbrev pub invariant-loop-at : goal.invariant-loop-at
invariant-loop-at l = (id : Id8) → (lists l.kept id || kept_among l.held.metas (drop l.at (entries (nodes_in l.tree.nodes))) id) ≡ kept_among l.held.metas (entries (nodes_in l.tree.nodes)) id
