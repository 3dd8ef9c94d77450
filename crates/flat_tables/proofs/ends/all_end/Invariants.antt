use Rattle.std.proofs.Common.{◌≡◌, ◌+◌, ◌^◌, ◌<◌, length, map, drop}
use Rattle.flat_tables.specs.Layout.{all_beneath}
use Rattle.flat_tables.specs.Trees.{part_of, capped}
use Rattle.flat_tables.proofs.ends.all_end.Given as goal

abbrev pub invariant-loop-slot : goal.invariant-loop-slot
invariant-loop-slot l = (capped (l.end + length (all_beneath (map part_of (drop l.slot-index l.slots)) l.end)) ≡ capped (l.from + length (all_beneath (map part_of l.slots) l.from))) × (l.end < 2 ^ 64)
