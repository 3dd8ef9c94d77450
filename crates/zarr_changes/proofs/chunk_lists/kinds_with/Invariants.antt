use Rattle.std.proofs.Common.{◌≡◌, length}
use Rattle.zarr_changes.specs.inside.Touching.{no_kinds, with_kinds, with_entries}
use Rattle.zarr_changes.proofs.chunk_lists.kinds_with.Given as goal

abbrev pub invariant-loop-found : goal.invariant-loop-found
invariant-loop-found g l = with_kinds l.kinds (with_entries l.entries l.overlay) ≡ with_kinds no_kinds (with_entries l.entries l.fn.overlay)

abbrev pub decreases-loop-found : goal.decreases-loop-found
decreases-loop-found g l = length l.overlay
