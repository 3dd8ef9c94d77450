use Rattle.std.proofs.Common.{◌≡◌, ◌*◌, drop}
use Rattle.zarr_meta.specs.Grids.{product}
use Rattle.zarr_grid.proofs.grids.chunk_bytes.Given as goal

-- the product so far, by the lengths that are left
abbrev pub invariant-loop-length : goal.invariant-loop-length
invariant-loop-length l = l.bytes * product (drop l.length-index l.chunks) ≡ l.size * product l.chunks
