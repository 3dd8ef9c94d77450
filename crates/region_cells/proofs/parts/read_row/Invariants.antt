use Rattle.std.proofs.Common.{◌≡◌, ◌<◌, ℕ, pos, get_or}
use Rattle.region_cells.specs.Numbers.{number_of, element_at}
use Rattle.region_cells.proofs.parts.read_row.Given as goal

-- those so far were read
abbrev pub invariant-loop-at : goal.invariant-loop-at
invariant-loop-at l = (k : ℕ) → k < l.at → get_or l.row k (pos 0) ≡ number_of l.element.kind l.element.big (element_at l.element.kind k l.bytes)
