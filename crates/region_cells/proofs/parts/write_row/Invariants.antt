use Rattle.std.proofs.Common.{take}
use Rattle.region_cells.specs.Rows.{WritesRow}
use Rattle.region_cells.proofs.parts.write_row.Given as goal

-- those so far were written
abbrev pub invariant-loop-at : goal.invariant-loop-at
invariant-loop-at l = WritesRow l.element.kind l.element.big (take l.at l.row) l.initial.bytes l.bytes
