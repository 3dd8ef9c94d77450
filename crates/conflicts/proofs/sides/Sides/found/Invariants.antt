use Rattle.std.proofs.Common.{◌≡◌, ◌++◌, drop}
use Rattle.std.specs.FinMap.{entries}
use Rattle.conflicts.specs.Found.{found_in}
use Rattle.conflicts.proofs.sides.Sides.found.Given as goal

abbrev pub invariant-loop-path : goal.invariant-loop-path
invariant-loop-path g l = l.found ++ found_in l.self (drop l.path-index l.path-items) (drop l.at (entries l.self.before)) ≡ found_in l.self l.path-items (entries l.self.before)
