use Rattle.std.proofs.Common.{◌<◌, ◌+◌, ◌*◌, ◌%◌, arith}
use Rattle.zarr_meta.specs.Grids.{product}
use Rattle.zarr_grid.proofs.PlaceSteps.{stepped, within_whole}
use Rattle.zarr_grid.proofs.cells.place_of.Goals as goal

pub overflow_mul-place : goal.overflow_mul-place
overflow_mul-place c =
    let place = c.loop-position.place in
    let p = c.in-Some.position.now in
    let n = c.in-Some.length.now in
    let next = stepped place p n c.loop-position.position-iterator.b.rest.now c.next.new.self.b.rest.now c.loop-position.position-iterator.a.rest.now c.next.new.self.a.rest.now c.args.chunks.now c.args.cell.now c.in-Some.ensures.steps.0 c.in-Some.ensures.steps.1 c.loop-position.invariant.2 in
    let within : place * n + p % n < product c.args.chunks.now = within_whole (place * n + p % n) c.next.new.self.b.rest.now c.next.new.self.a.rest.now c.args.chunks.now c.args.cell.now next in
    omega (arith, c.requires.small)

pub overflow_add-place : goal.overflow_add-place
overflow_add-place c =
    let place = c.loop-position.place in
    let p = c.in-Some.position.now in
    let n = c.in-Some.length.now in
    let next = stepped place p n c.loop-position.position-iterator.b.rest.now c.next.new.self.b.rest.now c.loop-position.position-iterator.a.rest.now c.next.new.self.a.rest.now c.args.chunks.now c.args.cell.now c.in-Some.ensures.steps.0 c.in-Some.ensures.steps.1 c.loop-position.invariant.2 in
    let within : place * n + p % n < product c.args.chunks.now = within_whole (place * n + p % n) c.next.new.self.b.rest.now c.next.new.self.a.rest.now c.args.chunks.now c.args.cell.now next in
    omega (arith, c.requires.small)

pub loop-position-preserved : goal.loop-position-preserved
loop-position-preserved c =
    ((tt, tt), tt, stepped c.loop-position.place c.in-Some.position.now c.in-Some.length.now c.loop-position.position-iterator.b.rest.now c.next.new.self.b.rest.now c.loop-position.position-iterator.a.rest.now c.next.new.self.a.rest.now c.args.chunks.now c.args.cell.now c.in-Some.ensures.steps.0 c.in-Some.ensures.steps.1 c.loop-position.invariant.2)
