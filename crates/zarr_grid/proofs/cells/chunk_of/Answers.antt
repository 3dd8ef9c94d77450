use Rattle.std.proofs.Common.{◌≡◌, ◌∙◌, ◌⊎◌, length, inl, inr}
use Rattle.zarr_grid.specs.Cells.{chunk_of}
use Rattle.zarr_grid.proofs.GridEnds.{chunk_whole}
use Rattle.zarr_grid.proofs.cells.chunk_of.Goals as goal

pub returns : goal.returns
returns c =
    let cell = c.loop-position.position-iterator.a.rest.now in
    let chunks = c.loop-position.position-iterator.b.rest.now in
    let ended : (length cell ≡ 0) ⊎ (length chunks ≡ 0) = elim c.in-None.ensures.steps [ inl h ↦ inl h.1.0 | inr h ↦ inr h.1.0 ] in
    c.from_parts.ensures ∙ chunk_whole c.loop-position.index.items chunks cell (chunk_of c.args.chunks.now c.args.cell.now) c.loop-position.invariant.2 ended
