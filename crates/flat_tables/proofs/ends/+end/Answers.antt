use Rattle.std.proofs.Common.{rules, arith, ◌≡◌, ◌+◌, ◌*◌, ◌<◌, get_or, length, map, ap, sym, subst, ◌∙◌}
use Rattle.std.specs.Prelude.{IsTrue}
use Rattle.std.specs.String.{string_bytes}
use Rattle.flat_tables.specs.Layout.{gap_to, fields_end, all_beneath, blocks, table_place}
use Rattle.flat_tables.specs.Trees.{layout, part_of, is_writable_slot, capped}
use Rattle.flat_tables.proofs.Lengths.{slots_writable, slots_few, each_table_writable, flat_length, structs_beneath, tables_beneath, text_beneath, capped_on, beneath_on, blocks_on}
use Rattle.flat_tables.proofs.ends.+end.Goals as goal

pub table_end-slots_end-requires-clause-writable : goal.table_end-slots_end-requires-clause-writable
table_end-slots_end-requires-clause-writable t c = rw c.deref.ensures.value (slots_writable c.args.flat.now c.requires)

pub table_end-slots_end-requires-clause-few : goal.table_end-slots_end-requires-clause-few
table_end-slots_end-requires-clause-few t c = rw c.deref.ensures.value (omega (arith, slots_few c.args.flat.now c.requires))

pub table_end-loop-slot-init : goal.table_end-loop-slot-init
table_end-loop-slot-init t c =
    let flat = c.args.flat.now in
    let from = c.args.from in
    let parts = map part_of flat.slots.items in
    let m : c.slots_end.result ≡ fields_end parts 4 = c.slots_end.ensures.end ∙ ap (λ xs. fields_end (map part_of xs) 4) c.deref.ensures.value in
    let n : c.len.result ≡ length flat.slots.items = search rules in
    let b = table_place (length flat.slots.items) from + fields_end parts 4 in
    let end : c.block_end-end.result ≡ capped b = c.block_end-end.ensures ∙ rw (n, m) (ap capped (omega arith)) in
    record {
      so_far = rw end (capped_on (λ e. length (all_beneath parts e)) b) ∙ ap capped (sym (flat_length flat from));
      small = omega (arith, end);
      writable = slots_writable flat c.requires;
    }

pub beneath_end-returns-in-Text : goal.beneath_end-returns-in-Text
beneath_end-returns-in-Text t c =
    let len : c.len.result ≡ length (string_bytes c.in-Text.text) = search rules in
    let z : c.args.from + 0 ≡ c.args.from = omega arith in
    c.block_end.ensures ∙ rw (z, len) (ap capped (omega (arith, text_beneath c.args.slot.now c.in-Text.text c.args.from c.in-Text.is)))

pub beneath_end-returns-in-Structs : goal.beneath_end-returns-in-Structs
beneath_end-returns-in-Structs t c =
    let len : c.len-in-Structs.result ≡ length c.in-Structs.bytes.items = search rules in
    c.block_end-in-Structs.ensures ∙ rw (c.vector_align.ensures, len) (ap capped (omega (arith, structs_beneath c.args.slot.now c.in-Structs.align c.in-Structs.size c.in-Structs.bytes c.args.from c.in-Structs.is)))

pub beneath_end-loop-flat-init : goal.beneath_end-loop-flat-init
beneath_end-loop-flat-init t c =
    let flats = c.in-Tables.flats in
    let from = c.args.from in
    let n : c.len-in-Tables.result ≡ length flats.items = search rules in
    let b = from + gap_to 4 (from + 4) + 4 + 4 * c.len-in-Tables.result in
    let all = tables_beneath c.args.slot.now flats from c.len-in-Tables.result c.in-Tables.is n in
    record {
      so_far = rw (c.deref-flat-items.ensures.value, c.offsets_end-end.ensures) (capped_on (λ e. length (blocks (map layout flats.items) e)) b) ∙ ap capped (sym all);
      small = omega (arith, c.offsets_end-end.ensures);
      writable = rw c.deref-flat-items.ensures.value (each_table_writable flats (subst (λ s. IsTrue (is_writable_slot s)) c.in-Tables.is c.requires));
    }

pub table_end-loop-slot-preserved : goal.table_end-loop-slot-preserved
table_end-loop-slot-preserved t c =
    let flat = c.args.flat.now in
    let slots = flat.slots.items in
    let i = c.loop-slot.slot-index in
    let s = c.slot-item.result in
    let items : c.deref-slot-items.result.now ≡ slots = c.deref-slot-items.ensures.value in
    let lt : i < length slots = omega (arith, ap length items, c.loop-slot-test.true) in
    let is : s ≡ get_or slots i s = c.slot-item.is ∙ ap (λ xs. get_or xs i s) items in
    record {
      so_far = beneath_on slots i s c.loop-slot.end (capped (c.args.from + length ((layout flat).bytes c.args.from))) lt is c.loop-slot.invariant.so_far c.beneath_end-end.result c.beneath_end-end.ensures;
      small = omega (arith, c.beneath_end-end.ensures);
      writable = c.loop-slot.invariant.writable;
    }

pub beneath_end-loop-flat-preserved : goal.beneath_end-loop-flat-preserved
beneath_end-loop-flat-preserved t c = record {
  so_far = blocks_on c.deref-flat-items.result.now c.loop-flat.flat-index c.flat-item.result c.loop-flat.end (capped (c.args.from + length ((part_of c.args.slot.now).beneath c.args.from))) c.loop-flat-test.true c.flat-item.is c.loop-flat.invariant.so_far c.table_end-end.result c.table_end-end.ensures;
  small = omega (arith, c.table_end-end.ensures);
  writable = c.loop-flat.invariant.writable;
}
