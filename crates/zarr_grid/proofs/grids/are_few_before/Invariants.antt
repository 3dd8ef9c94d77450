use Rattle.std.proofs.Common.{◌≡◌, ◌≤◌}
use Rattle.std.specs.List.{AllByRecursion}
use Rattle.zarr_meta.specs.Grids.{grid_of, are_each_below}
use Rattle.zarr_grid.proofs.grids.are_few_before.Given as goal

-- each number so far is below
abbrev pub invariant-loop-number : goal.invariant-loop-number
invariant-loop-number l =
    (goal.iterator-loop-number).can_next l.number-iterator ×
    (goal.iterator-loop-number).is_finite l.number-iterator ×
    (are_each_below l.number-iterator.a.a.rest.now (grid_of l.number-iterator.a.b.rest.now l.number-iterator.b.rest.now) ≡ are_each_below l.index (grid_of l.shape l.chunks)) ×
    AllByRecursion (λ chunk. 1 ≤ chunk) l.number-iterator.b.rest.now
