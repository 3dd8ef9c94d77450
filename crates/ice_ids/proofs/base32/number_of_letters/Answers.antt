use Rattle.std.proofs.Common.{arith, ◌<◌, ◌≡◌, ◌^◌, ◌∙◌, ap, sym, map, take, get_or, Some, Ok, below_more}
use Rattle.std.specs.Int.Digits.{number_from_digits}
use Rattle.std.proofs.lemmas.List.{take_all}
use Rattle.ice_ids.specs.Text.{digit_of, value_of}
use Rattle.ice_ids.proofs.LetterLaws.{number_of_letters-foreign, number_of_letters-all, letters_more, letters-below, letter_of-digit_of, is_foreign-None, is_foreign-Some}
use Rattle.ice_ids.proofs.base32.number_of_letters.Goals as goal

pub returns-in_default : goal.returns-in_default
returns-in_default c =
    sym (number_of_letters-foreign _ _ c.loop-at-test.true c.loop-at.invariant.letters (is_foreign-None _ (sym c.digit_of.ensures ∙ c.in_default.is)))

pub overflow_mul-number : goal.overflow_mul-number
overflow_mul-number c =
    let small : number_from_digits 32 (map value_of (take c.loop-at.at c.args.text.now)) < 32 ^ 19 = letters-below c.args.text.now c.loop-at.at 19 (omega arith) (omega arith) in
    omega (arith, c.loop-at.invariant.number)

pub overflow_add-number : goal.overflow_add-number
overflow_add-number c =
    let small : number_from_digits 32 (map value_of (take c.loop-at.at c.args.text.now)) < 32 ^ 19 = letters-below c.args.text.now c.loop-at.at 19 (omega arith) (omega arith) in
    let digit : c.in-Some.digit < 32 = (letter_of-digit_of _ _ (sym c.digit_of.ensures ∙ c.in-Some.is)).0 in
    omega (arith, c.loop-at.invariant.number)

pub loop-at-preserved : goal.loop-at-preserved
loop-at-preserved c =
    let is : digit_of (get_or c.args.text.now c.loop-at.at 0) ≡ Some c.in-Some.digit = sym c.digit_of.ensures ∙ c.in-Some.is in
    record {
      letters = below_more _ _ c.loop-at.invariant.letters (is_foreign-Some _ _ is);
      number = omega (arith, c.loop-at.invariant.number, letters_more c.args.text.now c.loop-at.at c.in-Some.digit c.loop-at-test.true is);
    }

pub returns : goal.returns
returns c =
    let whole : take c.loop-at.at c.args.text.now ≡ c.args.text.now = take_all _ _ c.loop-at-test.false in
    let number : c.loop-at.number ≡ number_from_digits 32 (map value_of c.args.text.now) =
    c.loop-at.invariant.number ∙ ap (λ xs. number_from_digits 32 (map value_of xs)) whole in
    ap (λ n. Ok n) number ∙ sym (number_of_letters-all _ (λ k below. c.loop-at.invariant.letters k (omega arith)))
