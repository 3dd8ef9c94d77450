use Rattle.std.proofs.Common.{◌≡◌, ◌++◌, drop}
use Rattle.std.specs.List.{flat_map}
use Rattle.std.specs.FinMap.{entries}
use Rattle.conflicts.specs.Found.{of_row, rows_before, rows_from}
use Rattle.conflicts.proofs.sides.Sides.push_before.Given as goal

abbrev pub invariant-loop-at : goal.invariant-loop-at
invariant-loop-at g l =
    (l.found ++ flat_map (of_row l.self) (rows_before l.path (drop l.at (entries l.self.before))) ≡ l.fn.found ++ flat_map (of_row l.self) (rows_before l.path (drop l.from (entries l.self.before))))
    × (rows_from l.path (drop l.at (entries l.self.before)) ≡ rows_from l.path (drop l.from (entries l.self.before)))
