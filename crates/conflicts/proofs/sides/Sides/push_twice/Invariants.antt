use Rattle.std.proofs.Common.{◌≡◌, ◌++◌, drop, map, is_some, Some}
use Rattle.std.specs.List.{filter}
use Rattle.zarr_tree.specs.declared.cases.Case.TheVariants.{ChunkDoubleUpdate}
use Rattle.zarr_tree.specs.Rows.{node_found}
use Rattle.zarr_tree.specs.Held.{entry_in}
use Rattle.held_log.specs.LookUp.{chunks_listed}
use Rattle.conflicts.specs.Found.{of_case}
use Rattle.conflicts.proofs.Exactness.{made}
use Rattle.conflicts.proofs.sides.Sides.push_twice.Given as goal

abbrev pub invariant-loop-at : goal.invariant-loop-at
invariant-loop-at g l =
    l.found ++ map (λ i. made ChunkDoubleUpdate l.path (Some i)) (filter (λ i. is_some (entry_in l.self.held.chunks l.node.id i)) (drop l.at (chunks_listed l.self.theirs.updated_chunks l.node.id)))
    ≡ l.fn.found ++ of_case l.self l.path (node_found l.node) ChunkDoubleUpdate
