use Rattle.std.proofs.Common.{◌≡◌, ◌++◌}
use Rattle.zarr_changes.proofs.entries.rows_of.Given as goal

abbrev pub invariant-loop-index : goal.invariant-loop-index
invariant-loop-index l = l.rows.items ++ l.index-iterator ≡ l.fn.chunks.entries
