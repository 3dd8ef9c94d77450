use Rattle.std.proofs.Common.{◌≡◌}
use Rattle.zarr_changes.specs.Rows.{own_rows}
use Rattle.zarr_changes.proofs.overlay.first_own.Given as goal

abbrev pub invariant-loop-at : goal.invariant-loop-at
invariant-loop-at g l = own_rows l.set (g.B.TreeLike.nodes l.base) l.fn.from ≡ own_rows l.set (g.B.TreeLike.nodes l.base) l.at
