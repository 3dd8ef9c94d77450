use Rattle.std.proofs.Common.{arith, refl}
use Rattle.crc_sum.proofs.Tables.{eight_by_rows}
use Rattle.crc_sum.proofs.rows.behind_eight.Goals as goal

pub returns : goal.returns
returns c = λ polynomial is.
    eight_by_rows polynomial c.args.remainder c.args.rows.now c.args.bytes.now is (omega (arith, c.ranges.remainder.fits)) (λ k. omega (arith, c.type_inv.bytes k)) c.requires.eight _ refl
