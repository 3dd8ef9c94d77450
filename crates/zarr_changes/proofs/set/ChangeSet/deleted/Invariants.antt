use Rattle.std.proofs.Common.{◌≡◌}
use Rattle.zarr_tree.specs.Changes.{is_gone}
use Rattle.zarr_tree.specs.Touched.{lists}
use Rattle.zarr_tree.specs.Held.{gone_rows}
use Rattle.zarr_changes.specs.inside.Touching.{no_kinds, with_kinds}
use Rattle.zarr_changes.proofs.TouchLaws.{left}
use Rattle.zarr_changes.proofs.set.ChangeSet.deleted.Given as goal

abbrev pub invariant-loop-at : goal.invariant-loop-at
invariant-loop-at g l =
    with_kinds l.kinds (left (g.B.TreeLike.nodes l.base) (λ row. is_gone (lists l.self.dropped) (g.B.TreeLike.nodes l.base) row.0) l.at)
    ≡ with_kinds no_kinds (gone_rows l.self (g.B.TreeLike.nodes l.base))
