use Rattle.std.proofs.Common.{arith, ◌-◌, ◌%◌, ◌∙◌, ap, sym, map, length-set}
use Rattle.std.proofs.lemmas.List.{map_push}
use Rattle.ice_ids.specs.Digits.{digits_in}
use Rattle.ice_ids.specs.Text.{letter_of, alphabet}
use Rattle.ice_ids.proofs.DigitLaws.{digits_in-step, placed}
use Rattle.ice_ids.proofs.base32.write_letters.Goals as goal

pub loop-at-preserved : goal.loop-at-preserved
unfolding letter_of alphabet
loop-at-preserved c =
    placed (c.loop-at.at - 1) c.loop-at.at (letter_of (c.loop-at.rest % 32)) _ _ c.loop-at.text _ (omega arith) (omega arith)
    (ap (map letter_of) (digits_in-step 32 c.loop-at.at (c.loop-at.at - 1) c.loop-at.rest (omega arith)) ∙ map_push letter_of _ _)
    (c.loop-at.invariant ∙ ap (λ n. map letter_of (digits_in 32 n c.args.number)) (sym (length-set _ _ _)))
