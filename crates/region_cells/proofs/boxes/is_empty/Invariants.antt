use Rattle.region_cells.proofs.WalkLaws.{IsEmptySoFar}
use Rattle.region_cells.proofs.boxes.is_empty.Given as goal

abbrev pub invariant-loop-first : goal.invariant-loop-first
invariant-loop-first l =
    (goal.iterator-loop-first).can_next l.first-iterator ×
    (goal.iterator-loop-first).is_finite l.first-iterator ×
    IsEmptySoFar l.first-iterator.a.rest.now l.first-iterator.b.rest.now l.from l.to
