-- One line after the other.
use Rattle.std.proofs.Common.{◌≡◌, ℕ, ◌+◌, false, List, [], ◌∷◌, Result, Ok, Err, length, arith, refl, sym, ◌∙◌}
use Rattle.script_values.specs.declared.kinds.ScriptKind.{ScriptKind}
use Rattle.play_script.specs.declared.scripts.Script.{Script}
use Rattle.script_values.specs.Words.{Text, lines_of}
use Rattle.play_script.specs.Places.{has_line, line_at}
use Rattle.play_script.specs.Reading.{lines_from}

abbrev pub Reading : Type 0
Reading = Result Script (ℕ × ScriptKind)

pub line_err : (s : Script) (n : ℕ) (lines rest : List Text) (line : Text) (kind : ScriptKind) (whole : Reading) (r : Result Script ScriptKind) → lines_from s n lines ≡ whole → lines ≡ line ∷ rest → r ≡ line_at s n rest line → r ≡ Err kind → whole ≡ Err (n, kind)
unfolding lines_from
line_err s n lines rest line kind whole r h split e f = sym h ∙ rw (split, ← e, f) refl

pub line_ok : (s t : Script) (n : ℕ) (lines rest : List Text) (line : Text) (whole : Reading) (r : Result Script ScriptKind) → lines_from s n lines ≡ whole → lines ≡ line ∷ rest → r ≡ line_at s n rest line → r ≡ Ok t → lines_from t (n + 1) rest ≡ whole
unfolding lines_from
line_ok s t n lines rest line whole r h split e f =
    let step : lines_from s n lines ≡ lines_from t (n + 1) rest = rw (split, ← e, f) refl in
    sym step ∙ h

pub no_lines : (s : Script) (n : ℕ) (text : Text) → length text ≡ 0 → lines_from s n (lines_of text) ≡ Ok s
unfolding lines_of lines_from
no_lines s n [] none = refl
no_lines s n (b ∷ bs) none = absurd (omega (arith, none))

pub no_line : (text : Text) → length text ≡ 0 → has_line (lines_of text) ≡ false
unfolding lines_of has_line
no_line [] none = refl
no_line (b ∷ bs) none = absurd (omega (arith, none))
