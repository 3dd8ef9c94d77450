use Rattle.std.proofs.Common.{ap, ◌∙◌, arith, ◌-◌}
use Rattle.std.proofs.lemmas.Option.{get_or_from_slice_get}
use Rattle.crc_sum.specs.Crc.{moved_by, row_at}
use Rattle.crc_sum.proofs.Tables.{row_above, row_below}
use Rattle.crc_sum.proofs.rows.next_row.Goals as goal

pub returns-then-place-lt256 : goal.returns-then-place-lt256
returns-then-place-lt256 c = λ are. c.moved_by_byte.ensures ∙ row_below c.args.polynomial c.args.place c.if-place-lt256.true

pub returns-else-place-lt256 : goal.returns-else-place-lt256
returns-else-place-lt256 c = λ are.
    let p = c.args.polynomial in
    let before = get_or_from_slice_get c.args.rows.now (c.args.place - 256) (row_at p (c.args.place - 256)) 0 (are (c.args.place - 256) (omega arith)) in
    c.moved_by_byte-else-place-lt256.ensures ∙ ap (moved_by 8 p) before ∙ row_above p c.args.place (omega arith)
