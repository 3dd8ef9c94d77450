use Rattle.std.proofs.Common.{◌≡◌, ◌+◌, length, option_map}
use Rattle.std.specs.Option.{option_map_or}
use Rattle.zarr_tree.specs.Changes.{is_gone}
use Rattle.zarr_tree.specs.Touched.{lists}
use Rattle.zarr_changes.proofs.Walking.{met_up}
use Rattle.conflicts.proofs.sides.Sides.is_gone.Given as goal

abbrev pub invariant-loop-next : goal.invariant-loop-next
invariant-loop-next g l =
    is_gone (lists l.self.held.dropped) l.self.after l.path ≡ met_up (lists l.self.held.dropped) l.self.after (option_map (λ text. text.now) l.next) l.path

abbrev pub decreases-loop-next : goal.decreases-loop-next
decreases-loop-next g l = option_map_or (λ text. length text.now + 1) l.next 0
