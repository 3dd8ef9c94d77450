use Rattle.std.proofs.Common.{◌≡◌, ◌⊎◌, length, inl, inr}
use Rattle.zarr_meta.specs.Grids.{grid_of}
use Rattle.zarr_grid.proofs.GridEnds.{grid_whole}
use Rattle.zarr_grid.proofs.grids.grid.Goals as goal

pub returns : goal.returns
returns c =
    let shape = c.loop-length.length-iterator.a.rest.now in
    let chunks = c.loop-length.length-iterator.b.rest.now in
    let ended : (length shape ≡ 0) ⊎ (length chunks ≡ 0) = elim c.in-None.ensures.steps [ inl h ↦ inl h.1.0 | inr h ↦ inr h.1.0 ] in
    grid_whole c.loop-length.counts.items shape chunks (grid_of c.args.shape.now c.args.chunks.now) c.loop-length.invariant.2 ended
