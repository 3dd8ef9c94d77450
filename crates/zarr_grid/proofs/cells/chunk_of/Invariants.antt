use Rattle.std.proofs.Common.{◌≡◌, ◌≤◌, ◌<◌, ◌^◌, ◌++◌}
use Rattle.std.specs.List.{AllByRecursion}
use Rattle.zarr_grid.specs.Cells.{chunk_of}
use Rattle.zarr_grid.proofs.cells.chunk_of.Given as goal

-- the numbers so far, and those of the dimensions that are left
abbrev pub invariant-loop-position : goal.invariant-loop-position
invariant-loop-position l =
    (goal.iterator-loop-position).can_next l.position-iterator ×
    (goal.iterator-loop-position).is_finite l.position-iterator ×
    (l.index.items ++ chunk_of l.position-iterator.b.rest.now l.position-iterator.a.rest.now ≡ chunk_of l.chunks l.cell) ×
    AllByRecursion (λ chunk. 1 ≤ chunk) l.position-iterator.b.rest.now ×
    AllByRecursion (λ number. number < 2 ^ 32) (chunk_of l.position-iterator.b.rest.now l.position-iterator.a.rest.now)
