use Rattle.std.proofs.Common.{◌≡◌, ◌++◌, map, length}
use Rattle.zarr_changes.proofs.keys.paths_in.Given as goal

abbrev pub invariant-loop-text : goal.invariant-loop-text
invariant-loop-text g l = l.paths ++ map (λ row. row.0) l.overlay ≡ map (λ row. row.0) l.fn.overlay

abbrev pub decreases-loop-text : goal.decreases-loop-text
decreases-loop-text g l = length l.overlay
