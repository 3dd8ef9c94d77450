use Rattle.std.proofs.Common.{◌≡◌}
use Rattle.region_cells.specs.Numbers.{bytes_of}
use Rattle.region_cells.specs.Walks.{repeated}
use Rattle.region_cells.proofs.filling.filled_chunk.Given as goal

-- those so far
abbrev pub invariant-loop : goal.invariant-loop
invariant-loop l = l.bytes.items ≡ repeated (bytes_of l.fn.element.kind l.fn.element.big l.fn.number) l.counter
