use Rattle.std.proofs.Common.{rules, ◌≡◌, sym, ap, ◌∙◌, arith, ◌%◌, ◌/◌, bit_xor}
use Rattle.crc_sum.proofs.Tables.{byte_more, first_row_read}
use Rattle.crc_sum.proofs.rows.behind_one.Goals as goal

pub returns : goal.returns
returns c = λ polynomial is.
    let b : c.from.result ≡ c.args.byte = search rules in
    let i = bit_xor c.args.remainder c.args.byte % 256 in
    rw b (ap (bit_xor (c.args.remainder / 256)) (first_row_read polynomial c.args.rows.now i is (omega arith)) ∙ sym (byte_more polynomial c.args.remainder c.args.byte (omega (arith, c.ranges.byte.fits))))
