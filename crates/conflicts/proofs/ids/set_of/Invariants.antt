use Rattle.std.proofs.Common.{◌≡◌, ◌||◌, drop}
use Rattle.ice_ids.specs.declared.Id8.{Id8}
use Rattle.zarr_tree.specs.Touched.{lists}
use Rattle.conflicts.proofs.ids.set_of.Given as goal

abbrev pub invariant-loop-id : goal.invariant-loop-id
invariant-loop-id l = (id : Id8) → (lists l.set id || lists (drop l.id-index l.ids) id) ≡ lists l.ids id
