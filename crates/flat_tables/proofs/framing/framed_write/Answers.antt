use Rattle.std.proofs.Common.{◌≡◌, ◌++◌, ◌+◌, ◌∙◌, sym, ap, map, length, arith}
use Rattle.std.specs.Int.{w32, to_le_bytes}
use Rattle.std.proofs.lemmas.List.{length-map}
use Rattle.flat_tables.specs.Layout.{table_place, table_block}
use Rattle.flat_tables.specs.Frames.{framed}
use Rattle.flat_tables.specs.Trees.{part_of}
use Rattle.flat_tables.proofs.Lengths.{payload_length}
use Rattle.flat_tables.proofs.Frames.{frame_root}
use Rattle.flat_tables.proofs.framing.framed_write.Goals as goal

pub returns-clause-written : goal.returns-clause-written
returns-clause-written g c =
    let ps = map part_of c.args.before.now in
    let qs = map part_of c.args.after.now in
    let bs = g.S.TableSource.layouts c.args.tables.now in
    let root = table_block (framed ps bs qs) in
    let count : length c.args.before.now + 1 + length c.args.after.now ≡ length ps + 1 + length qs = omega (arith, length-map c.args.before.now part_of, length-map c.args.after.now part_of) in
    let place : c.root_place.result ≡ table_place (length ps + 1 + length qs) 4 = c.root_place.ensures.place ∙ ap (λ n. table_place n 4) count in
    let first : c.push_u32.new.out.items ≡ to_le_bytes w32 (table_place (length ps + 1 + length qs) 4) = c.in_ok-push_u32.ensures ∙ (λ i. c.in_ok-out.ensures.items i ++ to_le_bytes w32 (place i)) in
    let all : c.put_frame.new.out.items ≡ to_le_bytes w32 (table_place (length ps + 1 + length qs) 4) ++ root.bytes 4 = c.in_ok-put_frame.ensures ∙ (λ i. first i ++ root.bytes (length (first i))) in
    (all ∙ sym (frame_root ps bs qs), omega (arith, payload_length root, c.in_ok-ends.ensures.whole, c.saturating_add-len.ensures, c.if-len-gt-FILE_LIMIT.false))
