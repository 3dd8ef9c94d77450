use Rattle.std.proofs.Common.{◌≡◌, ◌++◌, map}
use Rattle.zarr_changes.proofs.entries.push_keys.Given as goal

abbrev pub invariant-loop-index : goal.invariant-loop-index
invariant-loop-index l = l.keys ++ map (λ row. (l.id, row.0)) l.index-iterator ≡ l.fn.keys ++ map (λ row. (l.id, row.0)) l.fn.chunks.entries
