use Rattle.std.proofs.Common.{◌≡◌, ◌++◌, length}
use Rattle.zarr_changes.specs.Sets.{beneath_in}
use Rattle.zarr_changes.proofs.listing.listed.Given as goal

abbrev pub invariant-loop-text : goal.invariant-loop-text
invariant-loop-text g l = l.rows.items ++ beneath_in l.overlay l.of ≡ beneath_in l.fn.overlay l.of

abbrev pub decreases-loop-text : goal.decreases-loop-text
decreases-loop-text g l = length l.overlay
