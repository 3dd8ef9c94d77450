use Rattle.std.proofs.Common.{◌≡◌, ◌≤◌, ◌+◌, ◌*◌, map, drop}
use Rattle.flat_tables.specs.Layout.{fields_end}
use Rattle.flat_tables.specs.Trees.{part_of}
use Rattle.flat_tables.proofs.ends.slots_end.Given as goal

abbrev pub invariant-loop-slot : goal.invariant-loop-slot
invariant-loop-slot l = (fields_end (map part_of (drop l.slot-index l.slots)) l.end ≡ fields_end (map part_of l.slots) l.from) × (l.end ≤ l.from + 262 * l.slot-index)
