-- Digits of base 16, pair by pair.
use Rattle.std.proofs.Common.{◌≡◌, ◌<◌, min, List, [], ◌∷◌, ◌++◌, length, Result, Ok, Err, refl, sym, ap, ◌∙◌, arith, length-append, append-nil}
use Rattle.std.proofs.lemmas.List.{nil_from_length}
use Rattle.script_values.specs.declared.kinds.ScriptKind.{ScriptKind}
use Rattle.script_values.specs.Words.{Text}
use Rattle.script_values.specs.Parts.{each}
use Rattle.script_values.specs.Values.{pairs}
use Rattle.script_values.proofs.Earliest.{joined}

-- the first pair, which may be one digit at the end
pub first_pair : (pair rest digits : Text) → digits ≡ pair ++ rest → length pair ≡ min 2 (length digits) → 0 < length digits → pairs digits ≡ pair ∷ pairs rest
unfolding pairs
first_pair [] rest digits parts size some = absurd (omega (arith, size, some))
first_pair (a ∷ []) rest digits parts size some =
    let sum = ap length parts ∙ length-append (a ∷ []) rest in
    let last : rest ≡ [] = nil_from_length rest (omega (arith, sum, size)) in
    rw (parts, last) refl
first_pair (a ∷ b ∷ []) rest digits parts size some = rw parts refl
first_pair (a ∷ b ∷ c ∷ pair) rest digits parts size some = absurd (omega (arith, size))

joined_none : {A : Type 0} (r : Result (List A) ScriptKind) → joined r (Ok []) ≡ r
joined_none (Ok xs) = ap (λ (ys : List _). Ok ys) (append-nil xs)
joined_none (Err kind) = refl

-- no digits are left
pub no_pairs : {A : Type 0} (f : Text → Result A ScriptKind) (so_far : Result (List A) ScriptKind) (left : Text) (whole : Result (List A) ScriptKind) → length left ≡ 0 → joined so_far (each f (pairs left)) ≡ whole → so_far ≡ whole
unfolding pairs
no_pairs f so_far [] whole none h = sym (joined_none so_far) ∙ h
no_pairs f so_far (a ∷ left) whole none h = absurd (omega (arith, none))
