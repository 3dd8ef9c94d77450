use Rattle.std.proofs.Common.{◌≡◌}
use Rattle.zarr_changes.specs.inside.Touching.{touches_own}
use Rattle.zarr_changes.proofs.TouchLaws.{touching, some_left}
use Rattle.zarr_changes.proofs.set.ChangeSet.touches_base.Given as goal

abbrev pub invariant-loop-at : goal.invariant-loop-at
invariant-loop-at g l = some_left (g.B.TreeLike.nodes l.base) (touching l.self (g.B.TreeLike.nodes l.base)) l.at ≡ touches_own l.self (g.B.TreeLike.nodes l.base)
