-- What corners, cells and the words of a form are where a line is read.
use Rattle.std.specs.Prelude.{◌-◌, ◌^◌, ◌<◌, ℤ, codes}
use Rattle.std.proofs.Common.{◌≡◌, ℕ, true, List, [], Option, None, Some, Result, Ok, refl, subst, arith}
use Rattle.std.specs.List.{All}
use Rattle.std.proofs.lemmas.Bool.{cond_both}
use Rattle.std.proofs.lemmas.List.Elements.{All-nil}
use Rattle.script_values.specs.declared.kinds.ScriptKind.{ScriptKind}
use Rattle.script_values.specs.Words.{Text, parts}
use Rattle.script_values.specs.Parts.{each}
use Rattle.script_values.specs.Values.{◌reads◌, is_signed, fill_of, long_of, corner_of, cells_of}
use Rattle.script_calls.specs.Forms.{taken}
use Rattle.play_script.specs.Well.{IsWellCorner, AreWellCells}
use Rattle.script_values.proofs.Inversions.{each_ok, number_ok, fill_ok}

pub taken_ok : {A B : Type 0} (o : Option A) (f : A → Result B ScriptKind) (t : B) → taken o f ≡ Ok t → (w : A) × (o ≡ Some w) × (f w ≡ Ok t)
taken_ok None f t h = absurd (cc)
taken_ok (Some w) f t h = (w, refl, h)

-- the numbers of a corner have 64 bits
abbrev IsLong : ℕ → Type 0
IsLong n = n < 2 ^ 64

pub corner_ok : (w : Text) (corner : List ℕ) → corner_of w ≡ Ok corner → IsWellCorner corner
unfolding corner_of
corner_ok w corner h =
    cond_both (w reads codes "-") (Ok []) (each long_of (parts 44 w)) (λ (r : Result (List ℕ) ScriptKind). r ≡ Ok corner → All IsLong corner)
    (λ _ e. let none : [] ≡ corner = cc in subst (All IsLong) none (All-nil IsLong))
    (λ _ e. each_ok IsLong long_of (parts 44 w) corner (λ part n is. omega (arith, (number_ok 0 (2 ^ 64 - 1) part n is).1)) e)
    h

-- the numbers of cells have 128 bits, with a sign
abbrev IsSigned : ℤ → Type 0
IsSigned z = is_signed z ≡ true

pub cells_ok : (w : Text) (numbers : List ℤ) → cells_of w ≡ Ok numbers → AreWellCells numbers
unfolding cells_of
cells_ok w numbers h =
    cond_both (w reads codes "-") (Ok []) (each fill_of (parts 44 w)) (λ (r : Result (List ℤ) ScriptKind). r ≡ Ok numbers → All IsSigned numbers)
    (λ _ e. let none : [] ≡ numbers = cc in subst (All IsSigned) none (All-nil IsSigned))
    (λ _ e. each_ok IsSigned fill_of (parts 44 w) numbers fill_ok e)
    h
