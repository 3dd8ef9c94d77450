use Rattle.region_cells.proofs.WalkLaws.{AreMetSoFar}
use Rattle.region_cells.proofs.boxes.count_chunks.Given as goal

abbrev pub invariant-loop-chunk : goal.invariant-loop-chunk
invariant-loop-chunk l =
    (goal.iterator-loop-chunk).can_next l.chunk-iterator ×
    (goal.iterator-loop-chunk).is_finite l.chunk-iterator ×
    AreMetSoFar l.count l.chunk-iterator.a.a.rest.now l.chunk-iterator.a.b.rest.now l.chunk-iterator.b.rest.now l.chunks l.from l.to
