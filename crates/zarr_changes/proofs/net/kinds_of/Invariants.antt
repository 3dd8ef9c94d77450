use Rattle.std.proofs.Common.{◌≡◌, length}
use Rattle.zarr_changes.specs.inside.Touching.{no_kinds, with_kinds}
use Rattle.zarr_changes.proofs.net.kinds_of.Given as goal

abbrev pub invariant-loop-found : goal.invariant-loop-found
invariant-loop-found l = with_kinds l.kinds l.rows ≡ with_kinds no_kinds l.fn.rows

abbrev pub decreases-loop-found : goal.decreases-loop-found
decreases-loop-found l = length l.rows
