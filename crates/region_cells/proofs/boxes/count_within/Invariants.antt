use Rattle.std.proofs.Common.{◌≤◌}
use Rattle.region_cells.specs.Walks.{most_cells}
use Rattle.region_cells.proofs.WalkLaws.{IsCountSoFar}
use Rattle.region_cells.proofs.boxes.count_within.Given as goal

abbrev pub invariant-loop-first : goal.invariant-loop-first
invariant-loop-first l =
    (goal.iterator-loop-first).can_next l.first-iterator ×
    (goal.iterator-loop-first).is_finite l.first-iterator ×
    IsCountSoFar l.count l.first-iterator.a.rest.now l.first-iterator.b.rest.now l.from l.to ×
    (l.count ≤ most_cells)
