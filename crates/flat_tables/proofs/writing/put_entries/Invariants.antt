use Rattle.std.proofs.Common.{◌≡◌, ◌≤◌, ◌+◌, ◌*◌, ◌++◌, map, drop}
use Rattle.flat_tables.specs.Layout.{entries}
use Rattle.flat_tables.specs.Trees.{part_of}
use Rattle.flat_tables.proofs.writing.put_entries.Given as goal

abbrev pub invariant-loop-slot : goal.invariant-loop-slot
invariant-loop-slot l = (l.out.items ++ entries (map part_of (drop l.slot-index l.slots)) l.end ≡ l.fn.out.items ++ entries (map part_of l.slots) l.from) × (l.end ≤ l.from + 262 * l.slot-index)
