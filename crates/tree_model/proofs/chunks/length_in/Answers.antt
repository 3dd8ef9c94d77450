use Rattle.std.proofs.Common.{◌≡◌, ◌≤◌, ◌∙◌, All, Some, ap, sym, subst, length, arith}
use Rattle.zarr_meta.specs.Grids.{chunk_bytes}
use Rattle.zarr_meta.specs.Kinds.{size_of}
use Rattle.zarr_tree.specs.Nodes.{array_in, array_of_view}
use Rattle.zarr_tree.proofs.GridParts.{IsGrid, grid_parts}
use Rattle.tree_model.proofs.chunks.length_in.Goals as goal
use Rattle.tree_model.proofs.chunks.length_in.Goals.{In-Array}

grid : (c : In-Array) → IsGrid (size_of c.in-Array.array.kind) c.in-Array.array.shape c.in-Array.array.chunks
grid c =
    let found : array_in c.args.found.meta.now.text ≡ Some c.in-Array.array = ap array_of_view (c.args.found.meta.now.reads ∙ ap Some c.in-Array.is) in
    grid_parts (size_of c.in-Array.array.kind) c.in-Array.array.shape c.in-Array.array.chunks (c.grid_law.ensures c.args.found.meta.now.text c.in-Array.array found)

pub in_grid-requires-clause-ranks : goal.in_grid-requires-clause-ranks
in_grid-requires-clause-ranks c = ap length c.as_slice.ensures ∙ (grid (goal.at.in_grid-requires-clause-ranks c).In-Array).ranks ∙ ap length (sym c.as_slice-2.ensures)

pub in_grid-requires-clause-positive : goal.in_grid-requires-clause-positive
in_grid-requires-clause-positive c = subst (All (λ n. 1 ≤ n)) (sym c.as_slice-2.ensures) (grid (goal.at.in_grid-requires-clause-positive c).In-Array).positive

pub chunk_bytes-requires-clause-positive : goal.chunk_bytes-requires-clause-positive
chunk_bytes-requires-clause-positive c = subst (All (λ n. 1 ≤ n)) (sym c.as_slice-3.ensures) (grid (goal.at.chunk_bytes-requires-clause-positive c).In-Array).positive

pub chunk_bytes-requires-clause-small : goal.chunk_bytes-requires-clause-small
chunk_bytes-requires-clause-small c =
    let same : chunk_bytes c.size.result c.as_slice-3.result.now ≡ chunk_bytes (size_of c.in-Array.array.kind) c.in-Array.array.chunks = λ i. chunk_bytes (c.size.ensures i) (c.as_slice-3.ensures i) in
    omega (arith, same, (grid (goal.at.chunk_bytes-requires-clause-small c).In-Array).small)
