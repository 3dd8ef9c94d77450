use Rattle.std.proofs.Common.{◌≡◌, ◌+◌, ◌++◌, ◌∷◌, ◌∙◌, ℕ, length, map, drop, option_map, sym, ap, subst, arith}
use Rattle.std.specs.Prelude.{IsTrue}
use Rattle.std.proofs.lemmas.List.{length-append}
use Rattle.flat_tables.specs.declared.flat.Slot.{Slot}
use Rattle.flat_tables.specs.Layout.{fields, fields_end, all_beneath}
use Rattle.flat_tables.specs.Trees.{part_of, is_writable_slot, behind_field}
use Rattle.flat_tables.proofs.Lengths.{at_slot, one_end, one_beneath, exactly}
use Rattle.flat_tables.proofs.writing.put_fields.Goals as goal

pub put_part-requires-clause-before : goal.put_part-requires-clause-before
put_part-requires-clause-before c =
    let e : ℕ = behind_field (option_map (λ s. s.now) c.loop-slot.last) c.loop-slot.next in
    let there : c.behind_field-next.result ≡ e = exactly c.behind_field-next.result e c.behind_field-next.ensures (omega (arith, c.loop-slot.invariant.fits)) in
    let h = one_end c.args.slots.now c.loop-slot.slot-index c.slot-item.result c.loop-slot.end c.loop-slot-test.true c.slot-item.is in
    omega (arith, h, there, c.loop-slot.invariant.before)

pub put_part-requires-clause-fits : goal.put_part-requires-clause-fits
put_part-requires-clause-fits c =
    let e : ℕ = behind_field (option_map (λ s. s.now) c.loop-slot.last) c.loop-slot.next in
    let there : c.behind_field-next.result ≡ e = exactly c.behind_field-next.result e c.behind_field-next.ensures (omega (arith, c.loop-slot.invariant.fits)) in
    let h = one_beneath c.args.slots.now c.loop-slot.slot-index c.slot-item.result e c.loop-slot-test.true c.slot-item.is in
    rw there (omega (arith, h, c.loop-slot.invariant.fits))

pub loop-slot-preserved : goal.loop-slot-preserved
loop-slot-preserved c =
    let slots = c.args.slots.now in
    let i = c.loop-slot.slot-index in
    let s = c.slot-item.result in
    let inv = c.loop-slot.invariant in
    let e : ℕ = behind_field (option_map (λ s. s.now) c.loop-slot.last) c.loop-slot.next in
    let there : c.behind_field-next.result ≡ e = exactly c.behind_field-next.result e c.behind_field-next.ensures (omega (arith, inv.fits)) in
    let ps = map part_of (drop (i + 1) slots) in
    let at : drop i slots ≡ s ∷ drop (i + 1) slots = at_slot slots i s c.loop-slot-test.true c.slot-item.is in
    let all : length (all_beneath (map part_of (drop i slots)) e) ≡ length ((part_of s).beneath e) + length (all_beneath ps (e + length ((part_of s).beneath e))) =
    ap (λ ss. length (all_beneath (map part_of ss) e)) at ∙ length-append ((part_of s).beneath e) (all_beneath ps (e + length ((part_of s).beneath e))) in
    let ends : fields_end ps c.in_ok-end.end ≡ fields_end (map part_of (drop i slots)) c.loop-slot.end = c.in_ok-end.ensures.end ps ∙ ap (λ ss. fields_end (map part_of ss) c.loop-slot.end) (sym at) in
    record {
      bytes = c.in_ok-end.ensures.bytes ps ∙ ap (λ ss. c.loop-slot.out.items ++ fields (map part_of ss) c.loop-slot.end c.args.place c.behind_field-next.result) (sym at)
          ∙ ap (λ (n : ℕ). c.loop-slot.out.items ++ fields (map part_of (drop i slots)) c.loop-slot.end c.args.place n) there ∙ inv.bytes;
      small = omega (arith, c.in_ok-end.ensures.bounded, inv.small);
      before = omega (arith, ends, there, inv.before);
      fits = rw there (omega (arith, all, inv.fits));
      writable = subst (λ (x : Slot). IsTrue (is_writable_slot x)) (sym c.slot-item.is) (c.requires.writable i s c.loop-slot-test.true);
    }
