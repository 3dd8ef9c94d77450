use Rattle.std.proofs.Common.{◌≡◌, ◌≤◌, ◌++◌}
use Rattle.std.specs.List.{AllByRecursion}
use Rattle.zarr_meta.specs.Grids.{grid_of}
use Rattle.zarr_grid.proofs.grids.grid.Given as goal

-- the counts so far, and those of the dimensions that are left
abbrev pub invariant-loop-length : goal.invariant-loop-length
invariant-loop-length l =
    (goal.iterator-loop-length).can_next l.length-iterator ×
    (goal.iterator-loop-length).is_finite l.length-iterator ×
    (l.counts.items ++ grid_of l.length-iterator.a.rest.now l.length-iterator.b.rest.now ≡ grid_of l.shape l.chunks) ×
    AllByRecursion (λ chunk. 1 ≤ chunk) l.length-iterator.b.rest.now
