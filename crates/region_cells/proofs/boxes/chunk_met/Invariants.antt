use Rattle.region_cells.proofs.WalkLaws.{IsMetSoFar}
use Rattle.region_cells.proofs.boxes.chunk_met.Given as goal

abbrev pub invariant-loop-chunk : goal.invariant-loop-chunk
invariant-loop-chunk l =
    (goal.iterator-loop-chunk).can_next l.chunk-iterator ×
    (goal.iterator-loop-chunk).is_finite l.chunk-iterator ×
    IsMetSoFar l.numbers.items l.count l.rest l.at l.chunk-iterator.a.a.rest.now l.chunk-iterator.a.b.rest.now l.chunk-iterator.b.rest.now l.chunks l.from l.to
