use Rattle.std.proofs.Common.{◌≡◌, ◌≤◌, ◌+◌, ◌*◌, ◌++◌, map, drop, length, option_map}
use Rattle.std.specs.Prelude.{IsTrue, IfSome}
use Rattle.flat_tables.specs.Layout.{offsets, blocks}
use Rattle.flat_tables.specs.Trees.{layout, is_writable, behind_table}
use Rattle.flat_tables.proofs.writing.put_offsets_from.Given as goal

abbrev pub invariant-loop-flat : goal.invariant-loop-flat
invariant-loop-flat l = record {
  bytes : l.out.items ++ offsets (map layout (drop l.flat-index l.flats)) l.at (behind_table (option_map (λ f. f.now) l.last) l.next) ≡ l.fn.out.items ++ offsets (map layout l.flats) l.first l.below;
  at : l.at ≡ l.first + 4 * l.flat-index;
  before : l.at + 4 * length (drop l.flat-index l.flats) ≤ behind_table (option_map (λ f. f.now) l.last) l.next;
  fits : behind_table (option_map (λ f. f.now) l.last) l.next + length (blocks (map layout (drop l.flat-index l.flats)) (behind_table (option_map (λ f. f.now) l.last) l.next)) ≤ 268435417;
  writable : IfSome l.last (λ f. IsTrue (is_writable f.now));
}
