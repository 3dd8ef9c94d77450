use Rattle.std.proofs.Common.{length}
use Rattle.region_cells.proofs.WriteLaws.{WritesBelow}
use Rattle.region_cells.proofs.parts.+write_part.Given as goal

abbrev pub decreases-write_part : goal.decreases-write_part
decreases-write_part l = length l.sides.chunks.now

-- the rows below this one were written
abbrev pub invariant-loop-position : goal.invariant-loop-position
invariant-loop-position l =
    WritesBelow l.element.kind l.element.big l.side.from l.side.to l.side.chunk l.side.number l.rest.from.now l.rest.to.now l.rest.chunks.now l.rest.index.now l.cells l.position l.initial.bytes l.bytes
