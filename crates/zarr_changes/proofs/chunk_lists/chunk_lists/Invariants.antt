use Rattle.std.proofs.Common.{◌≡◌, take}
use Rattle.zarr_changes.specs.inside.Touching.{chunk_lists}
use Rattle.zarr_changes.proofs.chunk_lists.chunk_lists.Given as goal

abbrev pub invariant-loop-node : goal.invariant-loop-node
invariant-loop-node l = l.arrays ≡ chunk_lists l.entries (take l.node-index l.ids)
