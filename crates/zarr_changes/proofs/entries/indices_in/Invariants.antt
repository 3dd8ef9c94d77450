use Rattle.std.proofs.Common.{◌≡◌, ◌++◌}
use Rattle.std.specs.Map.{keys_of}
use Rattle.zarr_changes.proofs.entries.indices_in.Given as goal

abbrev pub invariant-loop-index : goal.invariant-loop-index
invariant-loop-index l = l.indices ++ keys_of l.index-iterator ≡ keys_of l.fn.chunks.entries
