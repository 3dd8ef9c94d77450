use Rattle.std.proofs.Common.{◌≡◌, ◌++◌, length}
use Rattle.std.specs.List.{filter_map}
use Rattle.zarr_changes.specs.Sets.{array_of_row}
use Rattle.zarr_changes.specs.inside.Touching.{with_entries}
use Rattle.zarr_changes.proofs.chunk_lists.arrays_with.Given as goal

abbrev pub invariant-loop-text : goal.invariant-loop-text
invariant-loop-text g l = l.arrays ++ filter_map array_of_row (with_entries l.entries l.overlay) ≡ filter_map array_of_row (with_entries l.entries l.fn.overlay)

abbrev pub decreases-loop-text : goal.decreases-loop-text
decreases-loop-text g l = length l.overlay
