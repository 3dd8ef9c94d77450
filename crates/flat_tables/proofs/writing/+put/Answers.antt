use Rattle.std.proofs.Common.{arith, ◌≡◌, ◌<◌, get_or, length, map, ap, subst, ◌∙◌, ◌++◌}
use Rattle.std.specs.Prelude.{IsTrue}
use Rattle.flat_tables.specs.Layout.{all_beneath, blocks, table_head, tables_head}
use Rattle.flat_tables.specs.Trees.{layout, part_of, is_writable_slot}
use Rattle.flat_tables.proofs.Lengths.{slots_writable, slots_few, each_table_writable, flat_length, structs_beneath, text_beneath, tables_beneath_is, table_split, begun, beneath_begun, blocks_begun}
use Rattle.flat_tables.proofs.writing.+put.Goals as goal

pub put_beneath-put_vector-requires-clause-fits : goal.put_beneath-put_vector-requires-clause-fits
put_beneath-put_vector-requires-clause-fits t c = rw c.deref.ensures.value (omega (arith, structs_beneath c.args.slot.now c.in-Structs.align c.in-Structs.size c.in-Structs.bytes (length c.args.out.now.items) c.in-Structs.is, c.requires.fits))

pub put_beneath-put_offsets-requires-clause-writable : goal.put_beneath-put_offsets-requires-clause-writable
put_beneath-put_offsets-requires-clause-writable t c = rw c.deref-in-Tables.ensures.value (each_table_writable c.in-Tables.flats (subst (λ s. IsTrue (is_writable_slot s)) c.in-Tables.is c.requires.writable))

pub put_beneath-loop-flat-init : goal.put_beneath-loop-flat-init
put_beneath-loop-flat-init t c =
    let old = c.args.out.now.items in
    let fs = c.in-Tables.flats in
    let new : c.put_offsets.new.out.items ≡ old ++ tables_head (map layout fs.items) (length old) = c.in_ok-put_offsets-in-Tables.ensures ∙ ap (λ xs. old ++ tables_head (map layout xs) (length old)) c.deref-in-Tables.ensures.value in
    let b = begun old c.put_offsets.new.out.items _ (λ e. blocks (map layout fs.items) e) _ new (tables_beneath_is c.args.slot.now fs (length old) c.in-Tables.is) in
    record {
      bytes = rw c.deref-flat-items.ensures.value b.bytes;
      fits = rw c.deref-flat-items.ensures.value (omega (arith, b.len, c.requires.fits));
      writable = rw c.deref-flat-items.ensures.value (each_table_writable fs (subst (λ s. IsTrue (is_writable_slot s)) c.in-Tables.is c.requires.writable));
    }

pub put_table-put_head-requires-clause-writable : goal.put_table-put_head-requires-clause-writable
put_table-put_head-requires-clause-writable t c = rw c.deref.ensures.value (slots_writable c.args.flat.now c.requires.writable)

pub put_table-put_head-requires-clause-few : goal.put_table-put_head-requires-clause-few
put_table-put_head-requires-clause-few t c = rw c.deref.ensures.value (slots_few c.args.flat.now c.requires.writable)

pub put_table-put_head-requires-clause-fits : goal.put_table-put_head-requires-clause-fits
put_table-put_head-requires-clause-fits t c = rw c.deref.ensures.value (omega (arith, flat_length c.args.flat.now (length c.args.out.now.items), c.requires.fits))

pub put_table-loop-slot-init : goal.put_table-loop-slot-init
put_table-loop-slot-init t c =
    let old = c.args.out.now.items in
    let ss = c.args.flat.now.slots.items in
    let new : c.put_head.new.out.items ≡ old ++ table_head (map part_of ss) (length old) = c.in_ok-put_head.ensures ∙ ap (λ xs. old ++ table_head (map part_of xs) (length old)) c.deref.ensures.value in
    let b = begun old c.put_head.new.out.items _ (λ e. all_beneath (map part_of ss) e) _ new (table_split c.args.flat.now (length old)) in
    record {
      bytes = b.bytes;
      fits = omega (arith, b.len, c.requires.fits);
      writable = slots_writable c.args.flat.now c.requires.writable;
    }

pub put_beneath-put_text-requires : goal.put_beneath-put_text-requires
put_beneath-put_text-requires t c = rw c.as_bytes.ensures.value (omega (arith, text_beneath c.args.slot.now c.in-Text.text (length c.args.out.now.items) c.in-Text.is, c.requires.fits))

pub put_table-loop-slot-preserved : goal.put_table-loop-slot-preserved
put_table-loop-slot-preserved t c =
    let slots = c.args.flat.now.slots.items in
    let i = c.loop-slot.slot-index in
    let s = c.slot-item.result in
    let items : c.deref-slot-items.result.now ≡ slots = c.deref-slot-items.ensures.value in
    let lt : i < length slots = omega (arith, ap length items, c.loop-slot-test.true) in
    let is : s ≡ get_or slots i s = c.slot-item.is ∙ ap (λ xs. get_or xs i s) items in
    let b = beneath_begun slots i s c.loop-slot.out.items c.put_beneath.new.out.items lt is c.in_ok-put_beneath.ensures in
    record {
      bytes = b.bytes ∙ c.loop-slot.invariant.bytes;
      fits = omega (arith, b.len, c.loop-slot.invariant.fits);
      writable = c.loop-slot.invariant.writable;
    }

pub put_beneath-loop-flat-preserved : goal.put_beneath-loop-flat-preserved
put_beneath-loop-flat-preserved t c =
    let b = blocks_begun c.deref-flat-items.result.now c.loop-flat.flat-index c.flat-item.result c.loop-flat.out.items c.put_table-in-loop-flat.new.out.items c.loop-flat-test.true c.flat-item.is c.in_ok-put_table-in-Tables.ensures in
    record {
      bytes = b.bytes ∙ c.loop-flat.invariant.bytes;
      fits = omega (arith, b.len, c.loop-flat.invariant.fits);
      writable = c.loop-flat.invariant.writable;
    }
