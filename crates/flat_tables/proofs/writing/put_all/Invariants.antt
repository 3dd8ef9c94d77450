use Rattle.std.proofs.Common.{◌≡◌, ◌+◌, ◌++◌, ◌≤◌, length, map, drop}
use Rattle.flat_tables.specs.Layout.{all_beneath}
use Rattle.flat_tables.specs.Trees.{part_of}
use Rattle.flat_tables.proofs.writing.put_all.Given as goal

abbrev pub invariant-loop-slot : goal.invariant-loop-slot
invariant-loop-slot l = record {
  bytes : l.out.items ++ all_beneath (map part_of (drop l.slot-index l.slots)) (length l.out.items) ≡ l.fn.out.items ++ all_beneath (map part_of l.slots) (length l.fn.out.items);
  fits : length l.out.items + length (all_beneath (map part_of (drop l.slot-index l.slots)) (length l.out.items)) ≤ 268435417;
}
