use Rattle.std.proofs.Common.{◌≡◌, ◌+◌, length, option_map}
use Rattle.std.specs.Option.{option_map_or}
use Rattle.zarr_tree.specs.Changes.{is_gone}
use Rattle.zarr_tree.specs.Touched.{lists}
use Rattle.zarr_changes.proofs.Walking.{met_up}
use Rattle.zarr_changes.proofs.set.ChangeSet.is_gone.Given as goal

abbrev pub invariant-loop-next : goal.invariant-loop-next
invariant-loop-next g l =
    is_gone (lists l.self.dropped) (g.B.TreeLike.nodes l.base) l.path ≡ met_up (lists l.self.dropped) (g.B.TreeLike.nodes l.base) (option_map (λ text. text.now) l.next) l.path

abbrev pub decreases-loop-next : goal.decreases-loop-next
decreases-loop-next g l = option_map_or (λ text. length text.now + 1) l.next 0
