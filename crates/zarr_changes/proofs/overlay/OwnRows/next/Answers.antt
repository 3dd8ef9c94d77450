use Rattle.std.proofs.Common.{subst}
use Rattle.zarr_tree.specs.Rows.{IsInOrder}
use Rattle.zarr_changes.proofs.OwnLaws.{own_in_order}
use Rattle.zarr_changes.proofs.overlay.OwnRows.next.Goals as goal

pub returns-clause-order : goal.returns-clause-order
returns-clause-order g c = subst IsInOrder c.self.view_is (own_in_order c.self.inside.set.now (g.B.TreeLike.nodes c.self.inside.base.now) c.self.inside.at)
