use Rattle.std.proofs.Common.{◌≡◌, ◌+◌, length}
use Rattle.zarr_changes.proofs.overlay.Overlay.reaches.Given as goal

abbrev pub invariant-loop : goal.invariant-loop
invariant-loop g l = l.counter + length l.self ≡ length l.fn.self
