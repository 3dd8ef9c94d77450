use Rattle.std.proofs.Common.{length}
use Rattle.region_cells.proofs.PartLaws.{ReadsBelow}
use Rattle.region_cells.proofs.parts.+read_part.Given as goal

abbrev pub decreases-read_part : goal.decreases-read_part
decreases-read_part l = length l.sides.chunks.now

-- the rows below this one were read
abbrev pub invariant-loop-position : goal.invariant-loop-position
invariant-loop-position l =
    ReadsBelow l.element.kind l.element.big l.side.from l.side.to l.side.chunk l.side.number l.rest.from.now l.rest.to.now l.rest.chunks.now l.rest.index.now l.bytes l.position l.initial.cells l.cells
