use Rattle.std.proofs.Common.{◌≡◌, ◌||◌, drop}
use Rattle.std.specs.List.{list_any}
use Rattle.ice_ids.specs.declared.Id8.{Id8}
use Rattle.ice_ids.specs.Text.{same_id8}
use Rattle.zarr_tree.specs.Touched.{lists}
use Rattle.conflicts.proofs.sides.arrays_of.Given as goal

abbrev pub invariant-loop-id : goal.invariant-loop-id
invariant-loop-id l = (id : Id8) → (lists l.set id || list_any (λ key. same_id8 key.0 id) (drop l.id-index l.chunks)) ≡ list_any (λ key. same_id8 key.0 id) l.chunks
