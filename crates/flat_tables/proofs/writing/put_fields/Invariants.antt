use Rattle.std.proofs.Common.{◌≡◌, ◌≤◌, ◌+◌, ◌*◌, ◌++◌, map, drop, length, option_map}
use Rattle.std.specs.Prelude.{IsTrue, IfSome}
use Rattle.flat_tables.specs.Layout.{fields, fields_end, all_beneath}
use Rattle.flat_tables.specs.Trees.{part_of, is_writable_slot, behind_field}
use Rattle.flat_tables.proofs.writing.put_fields.Given as goal

abbrev pub invariant-loop-slot : goal.invariant-loop-slot
invariant-loop-slot l = record {
  bytes : l.out.items ++ fields (map part_of (drop l.slot-index l.slots)) l.end l.place (behind_field (option_map (λ s. s.now) l.last) l.next) ≡ l.fn.out.items ++ fields (map part_of l.slots) l.from l.place l.below;
  small : l.end ≤ l.from + 262 * l.slot-index;
  before : l.place + fields_end (map part_of (drop l.slot-index l.slots)) l.end ≤ behind_field (option_map (λ s. s.now) l.last) l.next;
  fits : behind_field (option_map (λ s. s.now) l.last) l.next + length (all_beneath (map part_of (drop l.slot-index l.slots)) (behind_field (option_map (λ s. s.now) l.last) l.next)) ≤ 268435417;
  writable : IfSome l.last (λ s. IsTrue (is_writable_slot s.now));
}
