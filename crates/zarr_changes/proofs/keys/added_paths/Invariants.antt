use Rattle.std.proofs.Common.{◌≡◌, ◌++◌, map, length}
use Rattle.zarr_changes.proofs.keys.added_paths.Given as goal

abbrev pub invariant-loop-text : goal.invariant-loop-text
invariant-loop-text l = l.paths ++ map (λ row. row.0) l.rows ≡ map (λ row. row.0) l.fn.rows

abbrev pub decreases-loop-text : goal.decreases-loop-text
decreases-loop-text l = length l.rows
