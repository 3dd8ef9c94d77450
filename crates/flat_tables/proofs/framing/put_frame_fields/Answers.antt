use Rattle.std.proofs.Common.{◌≡◌, ◌++◌, ◌+◌, ◌-◌, ◌∙◌, refl, sym, ap, map, length, [], arith}
use Rattle.std.specs.Int.{w32, to_le_bytes}
use Rattle.std.proofs.lemmas.Result.{on_ok_weaker}
use Rattle.flat_tables.specs.Layout.{fields, fields_end, all_beneath, zeros, gap_to}
use Rattle.flat_tables.specs.Trees.{part_of}
use Rattle.flat_tables.proofs.Frames.{frame_ends, frame_fields, four_parts, vector_field}
use Rattle.flat_tables.proofs.framing.put_frame_fields.Goals as goal

pub put_fields-requires-clause-before : goal.put_fields-requires-clause-before
put_fields-requires-clause-before c =
    let field = vector_field (map part_of c.args.before.now) [] (map part_of c.args.after.now) 4 in
    omega (arith, field.0, field.1, c.requires.behind)

pub overflow_add-place : goal.overflow_add-place
overflow_add-place c =
    let field = vector_field (map part_of c.args.before.now) [] (map part_of c.args.after.now) 4 in
    omega (arith, field.1, c.requires.behind, c.requires.vector, c.requires.fits, c.slots_end-end.ensures.end, c.gap_to.ensures.gap)

pub overflow_sub-vector : goal.overflow_sub-vector
overflow_sub-vector c =
    let field = vector_field (map part_of c.args.before.now) [] (map part_of c.args.after.now) 4 in
    omega (arith, field.1, c.requires.behind, c.requires.vector, c.requires.fits, c.slots_end-end.ensures.end, c.gap_to.ensures.gap, c.all_end-vector.ensures)

pub put_fields-requires-2-clause-before : goal.put_fields-requires-2-clause-before
put_fields-requires-2-clause-before c =
    let ends = frame_ends (map part_of c.args.before.now) [] (map part_of c.args.after.now) 4 in
    rw (c.gap_to.ensures.gap, c.slots_end-end.ensures.end, ← ends) (omega (arith, c.requires.behind, c.requires.vector))

pub returns : goal.returns
returns c =
    let ps = map part_of c.args.before.now in
    let qs = map part_of c.args.after.now in
    let old = c.args.out.now.items in
    let t = c.args.place in
    let m = fields_end ps 4 in
    let a = m + gap_to 4 m in
    let v = c.args.below + length (all_beneath ps c.args.below) in
    let gap : c.gap_to.result ≡ gap_to 4 m = c.gap_to.ensures.gap ∙ ap (gap_to 4) c.slots_end-end.ensures.end in
    let at : c.slots_end-end.result + c.gap_to.result ≡ a = rw (gap, c.slots_end-end.ensures.end) refl in
    let less : c.slots_end-end.result + c.gap_to.result - c.slots_end-end.result ≡ gap_to 4 m = omega (arith, gap) in
    let vector : c.all_end-vector.result ≡ v = omega (arith, c.all_end-vector.ensures, c.requires.vector, c.requires.fits) in
    let offset : c.all_end-vector.result + c.gap_to-2.result - (t + (c.slots_end-end.result + c.gap_to.result)) ≡ v + gap_to 4 (v + 4) - (t + a) = rw (at, c.gap_to-2.ensures.gap, vector) refl in
    let second : c.push_zeros.new.out.items ≡ c.put_fields.new.out.items ++ zeros (gap_to 4 m) = c.in_ok-push_zeros.ensures ∙ ap (λ n. c.put_fields.new.out.items ++ zeros n) less in
    let third : c.push_u32.new.out.items ≡ c.push_zeros.new.out.items ++ to_le_bytes w32 (v + gap_to 4 (v + 4) - (t + a)) = c.in_ok-push_u32.ensures ∙ ap (λ n. c.push_zeros.new.out.items ++ to_le_bytes w32 n) offset in
    on_ok_weaker c.put_fields-2.result (λ fourth bs next.
    four_parts old c.put_fields.new.out.items c.push_zeros.new.out.items c.push_u32.new.out.items c.put_fields-2.new.out.items _ _ _ _ c.in_ok-put_fields.ensures second third (fourth ∙ (λ i. c.push_u32.new.out.items ++ fields qs (at i + 4) t (next i)))
    ∙ ap (λ xs. old ++ xs) (sym (frame_fields ps bs qs 4 t c.args.below))) c.put_fields-2.ensures
