use Rattle.std.proofs.Common.{◌≡◌, ◌++◌, ◌+◌, ◌∙◌, ap, length, arith, rules}
use Rattle.std.specs.Int.{w32, to_le_bytes}
use Rattle.std.proofs.lemmas.Result.{on_ok_weaker}
use Rattle.std.proofs.lemmas.List.{length-append, length-replicate}
use Rattle.flat_tables.specs.Layout.{zeros, gap_to}
use Rattle.flat_tables.specs.Frames.{first_table, offsets_to}
use Rattle.flat_tables.proofs.Frames.{places_length, offsets_are, grown}
use Rattle.flat_tables.proofs.framing.put_vector_head.Goals as goal

pub push_u32-requires : goal.push_u32-requires
push_u32-requires g c = omega (arith, c.len-2.ensures, c.requires.fits)

pub put_offsets_to-requires : goal.put_offsets_to-requires
put_offsets_to-requires g c k d lt =
    let bs = g.S.TableSource.layouts c.args.tables.now in
    let e = length c.args.out.now.items in
    let within = c.requires.within k d lt in
    let count : length c.args.each.now ≡ length bs = ap length c.requires.places ∙ places_length bs (first_table (length bs) e) in
    let first : c.len-first.result ≡ e + gap_to 4 (e + 4) + 4 = search (rules, length-append, length-replicate) in
    (omega (arith, within.0, count, first), within.1)

pub returns : goal.returns
returns g c =
    let bs = g.S.TableSource.layouts c.args.tables.now in
    let old = c.args.out.now.items in
    let e = length old in
    let first : c.len-first.result ≡ e + gap_to 4 (e + 4) + 4 = search (rules, length-append, length-replicate) in
    let s0 : c.push_zeros.new.out.items ≡ old ++ zeros (gap_to 4 (e + 4)) = search rules in
    let s1 : c.push_u32.new.out.items ≡ c.push_zeros.new.out.items ++ to_le_bytes w32 (length bs) = c.in_ok-push_u32.ensures ∙ ap (λ n. c.push_zeros.new.out.items ++ to_le_bytes w32 n) c.len-2.ensures in
    on_ok_weaker c.put_offsets_to.result (λ last. grown old _ _ _ _ (grown old _ _ _ _ s0 s1)
    (last ∙ (λ i. c.push_u32.new.out.items ++ offsets_to (c.requires.places i) (first i)) ∙ ap (λ xs. c.push_u32.new.out.items ++ xs) (offsets_are bs (e + gap_to 4 (e + 4) + 4) (first_table (length bs) e)))) c.put_offsets_to.ensures
