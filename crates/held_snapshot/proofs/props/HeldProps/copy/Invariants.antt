use Rattle.std.proofs.Common.{◌≡◌, take}
use Rattle.held_snapshot.proofs.props.HeldProps.copy.Given as goal

abbrev pub invariant-loop-i : goal.invariant-loop-i
invariant-loop-i l = l.props ≡ take l.i l.self
