use Rattle.std.proofs.Common.{◌≡◌, ◌++◌, ◌+◌, ◌∙◌, refl, sym, ap, map, []}
use Rattle.std.specs.Int.{w16, to_le_bytes}
use Rattle.std.proofs.lemmas.Result.{on_ok_weaker}
use Rattle.flat_tables.specs.Layout.{entries, fields_end, gap_to}
use Rattle.flat_tables.specs.Trees.{part_of}
use Rattle.flat_tables.proofs.Frames.{frame_entries, three_parts}
use Rattle.flat_tables.proofs.framing.put_frame_entries.Goals as goal

pub returns : goal.returns
returns c =
    let ps = map part_of c.args.before.now in
    let qs = map part_of c.args.after.now in
    let old = c.args.out.now.items in
    let m = fields_end ps 4 in
    let at : c.slots_end-end.result + c.gap_to.result ≡ m + gap_to 4 m = rw (c.gap_to.ensures.gap, c.slots_end-end.ensures.end) refl in
    let second : c.push_u16.new.out.items ≡ c.put_entries.new.out.items ++ to_le_bytes w16 (m + gap_to 4 m) = c.in_ok-push_u16.ensures ∙ ap (λ n. c.put_entries.new.out.items ++ to_le_bytes w16 n) at in
    on_ok_weaker c.put_entries-2.result (λ third. three_parts old c.put_entries.new.out.items c.push_u16.new.out.items c.put_entries-2.new.out.items _ _ _ c.in_ok-put_entries.ensures second (third ∙ ap (λ n. c.push_u16.new.out.items ++ entries qs (n + 4)) at) ∙ ap (λ xs. old ++ xs) (sym (frame_entries ps [] qs 4))) c.put_entries-2.ensures
