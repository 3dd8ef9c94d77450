use Rattle.std.proofs.Common.{◌≡◌, ◌++◌, drop}
use Rattle.conflicts.specs.Solving.{left_of}
use Rattle.conflicts.proofs.solving.left_of.Given as goal

abbrev pub invariant-loop-conflict : goal.invariant-loop-conflict
invariant-loop-conflict l = l.left ++ left_of l.policy (drop l.conflict-index l.found) ≡ left_of l.policy l.found
