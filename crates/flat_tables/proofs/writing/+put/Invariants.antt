use Rattle.std.proofs.Common.{◌≡◌, ◌+◌, ◌++◌, ◌≤◌, length, map, drop, All}
use Rattle.std.specs.Prelude.{IsTrue}
use Rattle.flat_tables.specs.Layout.{all_beneath, blocks}
use Rattle.flat_tables.specs.Trees.{layout, part_of, is_writable, is_writable_slot}
use Rattle.flat_tables.proofs.writing.+put.Given as goal

abbrev pub invariant-put_table-loop-slot : goal.invariant-put_table-loop-slot
invariant-put_table-loop-slot l = record {
  bytes : l.out.items ++ all_beneath (map part_of (drop l.slot-index l.flat.slots.items)) (length l.out.items) ≡ l.fn.out.items ++ (layout l.flat).bytes (length l.fn.out.items);
  fits : length l.out.items + length (all_beneath (map part_of (drop l.slot-index l.flat.slots.items)) (length l.out.items)) ≤ 268435417;
  writable : All (λ s. IsTrue (is_writable_slot s)) l.flat.slots.items;
}

abbrev pub invariant-put_beneath-loop-flat : goal.invariant-put_beneath-loop-flat
invariant-put_beneath-loop-flat l = record {
  bytes : l.out.items ++ blocks (map layout (drop l.flat-index l.flat-items)) (length l.out.items) ≡ l.fn.out.items ++ (part_of l.slot).beneath (length l.fn.out.items);
  fits : length l.out.items + length (blocks (map layout (drop l.flat-index l.flat-items)) (length l.out.items)) ≤ 268435417;
  writable : All (λ f. IsTrue (is_writable f)) l.flat-items;
}
