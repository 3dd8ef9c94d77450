use Rattle.std.proofs.Common.{◌≡◌}
use Rattle.zarr_tree.specs.Held.{updated_rows}
use Rattle.zarr_changes.specs.inside.Touching.{no_kinds, with_kinds, is_updated}
use Rattle.zarr_changes.proofs.TouchLaws.{left}
use Rattle.zarr_changes.proofs.set.ChangeSet.updated.Given as goal

abbrev pub invariant-loop-at : goal.invariant-loop-at
invariant-loop-at g l =
    with_kinds l.kinds (left (g.B.TreeLike.nodes l.base) (is_updated l.self (g.B.TreeLike.nodes l.base)) l.at)
    ≡ with_kinds no_kinds (updated_rows l.self (g.B.TreeLike.nodes l.base))
