use Rattle.std.proofs.Common.{◌≡◌, ◌++◌}
use Rattle.zarr_changes.proofs.entries.copy_chunks.Given as goal

abbrev pub invariant-loop-index : goal.invariant-loop-index
invariant-loop-index l = l.copy.entries ++ l.index-iterator ≡ l.fn.chunks.entries
