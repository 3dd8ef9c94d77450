use Rattle.std.proofs.Common.{◌≡◌, ◌++◌, drop}
use Rattle.conflicts.specs.Solving.{given_up}
use Rattle.conflicts.proofs.solving.given_up.Given as goal

abbrev pub invariant-loop-conflict : goal.invariant-loop-conflict
invariant-loop-conflict l = l.given ++ given_up l.policy (drop l.conflict-index l.found) ≡ given_up l.policy l.found
