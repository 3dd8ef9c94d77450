use Rattle.std.proofs.Common.{◌≡◌, ◌≤◌, ◌∙◌, All, Some, ap, sym, subst, arith}
use Rattle.zarr_meta.specs.Grids.{chunk_bytes}
use Rattle.zarr_meta.specs.Kinds.{size_of}
use Rattle.zarr_tree.specs.Nodes.{array_in, array_of_view}
use Rattle.intact.proofs.Grids.{IsGrid, grid-parts}
use Rattle.intact.proofs.snapshots.want_in.Goals as goal
use Rattle.intact.proofs.snapshots.want_in.Goals.{In-Array}

grid : (c : In-Array) → IsGrid (size_of c.in-Array.array.kind) c.in-Array.array.chunks
grid c =
    let found : array_in c.args.found.now.meta.now.text ≡ Some c.in-Array.array = ap array_of_view (c.args.found.now.meta.now.reads ∙ ap Some c.in-Array.is) in
    grid-parts (size_of c.in-Array.array.kind) c.in-Array.array.shape c.in-Array.array.chunks (c.grid_law.ensures c.args.found.now.meta.now.text c.in-Array.array found)

pub chunk_bytes-requires-clause-positive : goal.chunk_bytes-requires-clause-positive
chunk_bytes-requires-clause-positive c = subst (All (λ n. 1 ≤ n)) (sym c.as_slice.ensures) (grid (goal.at.chunk_bytes-requires-clause-positive c).In-Array).positive

pub chunk_bytes-requires-clause-small : goal.chunk_bytes-requires-clause-small
chunk_bytes-requires-clause-small c =
    let same : chunk_bytes c.size.result c.as_slice.result.now ≡ chunk_bytes (size_of c.in-Array.array.kind) c.in-Array.array.chunks = λ i. chunk_bytes (c.size.ensures i) (c.as_slice.ensures i) in
    omega (arith, same, (grid (goal.at.chunk_bytes-requires-clause-small c).In-Array).small)
