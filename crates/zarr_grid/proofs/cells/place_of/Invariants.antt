use Rattle.zarr_grid.proofs.PlaceSteps.{IsPlaceSoFar}
use Rattle.zarr_grid.proofs.cells.place_of.Given as goal

abbrev pub invariant-loop-position : goal.invariant-loop-position
invariant-loop-position l =
    (goal.iterator-loop-position).can_next l.position-iterator ×
    (goal.iterator-loop-position).is_finite l.position-iterator ×
    IsPlaceSoFar l.place l.position-iterator.b.rest.now l.position-iterator.a.rest.now l.chunks l.cell
