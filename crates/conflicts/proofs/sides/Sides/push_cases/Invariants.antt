use Rattle.std.proofs.Common.{◌≡◌, ◌++◌, drop}
use Rattle.std.specs.List.{flat_map}
use Rattle.zarr_tree.specs.Rows.{node_found}
use Rattle.conflicts.specs.Found.{of_case}
use Rattle.conflicts.proofs.sides.Sides.push_cases.Given as goal

abbrev pub invariant-loop-case : goal.invariant-loop-case
invariant-loop-case g l =
    l.found ++ flat_map (λ k. of_case l.self l.path (node_found l.node) k) (drop l.case-index l.cases) ≡ l.fn.found ++ flat_map (λ k. of_case l.self l.path (node_found l.node) k) l.cases
