use Rattle.std.proofs.Common.{◌≡◌, ℕ, ◌++◌, ◌+◌, ◌*◌, ◌∙◌, refl, sym, ap, map, length, List, [], arith, rules}
use Rattle.std.specs.Int.{w16, w32, to_le_bytes}
use Rattle.std.proofs.lemmas.Result.{on_ok_weaker}
use Rattle.std.proofs.lemmas.List.{length-map}
use Rattle.flat_tables.specs.Layout.{fields, fields_end, all_beneath, zeros, gap_to, table_place, tables_block}
use Rattle.flat_tables.specs.Frames.{framed}
use Rattle.flat_tables.specs.Trees.{part_of}
use Rattle.flat_tables.proofs.Frames.{frame_length, same_ends, same_entries, grown}
use Rattle.flat_tables.proofs.framing.put_frame_head.Goals as goal

pub returns : goal.returns
returns c =
    let ps = map part_of c.args.before.now in
    let qs = map part_of c.args.after.now in
    let old = c.args.out.now.items in
    let e = length old in
    let n = length ps + 1 + length qs in
    let m = fields_end (framed ps [] qs) 4 in
    let t = table_place n e in
    let count : length c.args.before.now + 1 + length c.args.after.now ≡ n = omega (arith, length-map c.args.before.now part_of, length-map c.args.after.now part_of) in
    let from : c.len-from.result ≡ e = search rules in
    let gap : c.gap_to-gap.result ≡ gap_to 8 (e + (4 + 2 * n)) = c.gap_to-gap.ensures.gap ∙ rw (from, count) refl in
    let place : c.len-from.result + c.gap_to-gap.result + (4 + 2 * (length c.args.before.now + 1 + length c.args.after.now)) ≡ t = rw (gap, from, count) refl in
    let below : c.len-from.result + c.gap_to-gap.result + (4 + 2 * (length c.args.before.now + 1 + length c.args.after.now)) + c.frame_end-end.result ≡ t + m = rw (place, c.frame_end-end.ensures.end) refl in
    let s0 : c.push_zeros.new.out.items ≡ old ++ zeros (gap_to 8 (e + (4 + 2 * n))) = c.in_ok-push_zeros.ensures ∙ ap (λ k. old ++ zeros k) gap in
    let s1 : c.push_u16.new.out.items ≡ c.push_zeros.new.out.items ++ to_le_bytes w16 (4 + 2 * n) = c.in_ok-push_u16.ensures ∙ ap (λ k. c.push_zeros.new.out.items ++ to_le_bytes w16 (4 + 2 * k)) count in
    let s2 : c.push_u16-2.new.out.items ≡ c.push_u16.new.out.items ++ to_le_bytes w16 m = c.in_ok-push_u16-2.ensures ∙ ap (λ k. c.push_u16.new.out.items ++ to_le_bytes w16 k) c.frame_end-end.ensures.end in
    let s4 : c.push_u32.new.out.items ≡ c.put_frame_entries.new.out.items ++ to_le_bytes w32 (4 + 2 * n) = c.in_ok-push_u32.ensures ∙ ap (λ k. c.put_frame_entries.new.out.items ++ to_le_bytes w32 (4 + 2 * k)) count in
    let g1 = grown old _ _ _ _ s0 s1 in
    let g2 = grown old _ _ _ _ g1 s2 in
    let g3 = grown old _ _ _ _ g2 c.in_ok-put_frame_entries.ensures in
    let g4 = grown old _ _ _ _ g3 s4 in
    let head : List ℕ → ℕ → ℕ → List ℕ → List ℕ = λ es k l fs. zeros (gap_to 8 (e + (4 + 2 * k))) ++ to_le_bytes w16 (4 + 2 * k) ++ to_le_bytes w16 l ++ es ++ to_le_bytes w32 (4 + 2 * k) ++ fs in
    on_ok_weaker c.put_frame_fields.result (λ last bs next.
    let parts = framed ps bs qs in
    let fs = last bs (next ∙ (λ i. sym below i + length (all_beneath ps (sym below i)) + length ((tables_block bs).bytes (sym below i + length (all_beneath ps (sym below i)))))) in
    let len : n ≡ length parts = sym (frame_length ps bs qs) in
    let ends : m ≡ fields_end parts 4 = same_ends ps [] bs qs 4 in
    grown old _ _ _ _ g4 (fs ∙ (λ i. c.push_u32.new.out.items ++ fields parts 4 (place i) (below i)))
    ∙ (λ i. old ++ head (same_entries ps [] bs qs 4 i) (len i) (ends i) (fields parts 4 (table_place (len i) e) (table_place (len i) e + ends i)))) c.put_frame_fields.ensures
