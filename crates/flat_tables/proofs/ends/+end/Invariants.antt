use Rattle.std.proofs.Common.{◌≡◌, ◌+◌, ◌^◌, ◌<◌, length, map, drop, All}
use Rattle.std.specs.Prelude.{IsTrue}
use Rattle.flat_tables.specs.Layout.{all_beneath, blocks}
use Rattle.flat_tables.specs.Trees.{layout, part_of, is_writable, is_writable_slot, capped}
use Rattle.flat_tables.proofs.ends.+end.Given as goal

abbrev pub invariant-table_end-loop-slot : goal.invariant-table_end-loop-slot
invariant-table_end-loop-slot l = record {
  so_far : capped (l.end + length (all_beneath (map part_of (drop l.slot-index l.flat.slots.items)) l.end)) ≡ capped (l.from + length ((layout l.flat).bytes l.from));
  small : l.end < 2 ^ 64;
  writable : All (λ s. IsTrue (is_writable_slot s)) l.flat.slots.items;
}

abbrev pub invariant-beneath_end-loop-flat : goal.invariant-beneath_end-loop-flat
invariant-beneath_end-loop-flat l = record {
  so_far : capped (l.end + length (blocks (map layout (drop l.flat-index l.flat-items)) l.end)) ≡ capped (l.from + length ((part_of l.slot).beneath l.from));
  small : l.end < 2 ^ 64;
  writable : All (λ f. IsTrue (is_writable f)) l.flat-items;
}
