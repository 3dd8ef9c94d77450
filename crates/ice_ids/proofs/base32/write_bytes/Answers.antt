use Rattle.std.proofs.Common.{arith, ◌-◌, ◌%◌, ◌∙◌, ap, sym, length-set}
use Rattle.ice_ids.specs.Digits.{digits_in}
use Rattle.ice_ids.proofs.DigitLaws.{digits_in-step, placed}
use Rattle.ice_ids.proofs.base32.write_bytes.Goals as goal

pub loop-at-preserved : goal.loop-at-preserved
loop-at-preserved c =
    placed (c.loop-at.at - 1) c.loop-at.at (c.loop-at.rest % 256) _ _ c.loop-at.bytes _ (omega arith) (omega arith)
    (digits_in-step 256 c.loop-at.at (c.loop-at.at - 1) c.loop-at.rest (omega arith))
    (c.loop-at.invariant ∙ ap (λ n. digits_in 256 n c.args.number) (sym (length-set _ _ _)))
