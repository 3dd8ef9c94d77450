use Rattle.std.proofs.Common.{◌≤◌, ◌*◌, get_or, drop, arith}
use Rattle.zarr_meta.specs.Grids.{product}
use Rattle.zarr_grid.proofs.GridEnds.{product_so_far_at}
use Rattle.zarr_grid.proofs.grids.chunk_bytes.Goals as goal

pub overflow_mul-bytes : goal.overflow_mul-bytes
overflow_mul-bytes c =
    let chunks = c.args.chunks.now in
    let bytes = c.loop-length.bytes in
    let i = c.loop-length.length-index in
    let within : bytes * get_or chunks i 0 ≤ bytes * product (drop i chunks) = product_so_far_at bytes i chunks c.loop-length-test.true c.requires.positive in
    omega (arith, c.requires.small, c.loop-length.invariant)
