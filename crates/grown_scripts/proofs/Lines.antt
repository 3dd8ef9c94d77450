-- Texts that are read line by line, from one script to another.
use Rattle.std.proofs.Common.{◌≡◌, ℕ, ◌+◌, ◌≤◌, true, false, List, [], ◌∷◌, ◌++◌, length, Option, None, Result, Ok, refl, ◌∙◌, append_assoc, append-nil}
use Rattle.std.proofs.lemmas.Bool.{le-leb}
use Rattle.script_values.specs.declared.kinds.ScriptKind.{ScriptKind}
use Rattle.script_calls.specs.declared.calls.Call.{Call}
use Rattle.script_calls.specs.declared.calls.Class.{Class}
use Rattle.play_script.specs.declared.scripts.Task.{Task}
use Rattle.play_script.specs.declared.scripts.Script.{Script}
use Rattle.script_values.specs.Words.{Text, lines_of, cut_of}
use Rattle.script_calls.specs.Forms.{form_of}
use Rattle.play_script.specs.Places.{is_open, takes, last, with_line, body_line, is_passed, words_line, line_at}
use Rattle.play_script.specs.Reading.{most_bytes, lines_from, empty, script_of}
use Rattle.grown_scripts.proofs.Bytes.{is_line, line_text}
use Rattle.grown_scripts.proofs.Cutting.{line_off}

-- tasks so far, with no turns yet
abbrev pub so_far : List Task → Script
so_far tasks = record { tasks = tasks; turns = None }

-- behind s, the text's lines, of which the first has the number n, make t of it, and the next line has the number m
pub record Reads (s : Script) (n : ℕ) (text : Text) (t : Script) (m : ℕ) : Type 0 where
  pub reads : (rest : Text) → lines_from s n (lines_of (text ++ rest)) ≡ lines_from t m (lines_of rest)

pub nothing : (s : Script) (n : ℕ) → Reads s n [] s n
nothing s n = record { reads = λ rest. refl }

pub joined : (s t u : Script) (n m o : ℕ) (a b : Text) → Reads s n a t m → Reads t m b u o → Reads s n (a ++ b) u o
joined s t u n m o a b p q = record { reads = λ rest. rw (append_assoc a b rest) (p.reads (b ++ rest) ∙ q.reads rest) }

-- one line
pub one_line : (s t : Script) (n : ℕ) (w : Text) → is_line w ≡ true → ((after : List Text) → line_at s n after w ≡ Ok t) → Reads s n (w ++ 10 ∷ []) t (n + 1)
unfolding lines_from
one_line s t n w h read = record { reads = λ rest. rw (append_assoc w (10 ∷ []) rest, line_off w rest h, read (lines_of rest)) refl }

-- a line by its first word
pub by_words : (s : Script) (n : ℕ) (after : List Text) (line first : Text) (rest : Option Text) (r : Result Script ScriptKind) → is_line line ≡ true → is_passed line ≡ false → cut_of 32 line ≡ (first, rest) → words_line s n after first rest ≡ r → line_at s n after line ≡ r
unfolding line_at
by_words s n after line first rest r h shown cut e = rw (line_text line h, shown, cut) e

-- a body line
pub body_back : (s : Script) (n : ℕ) (first : Text) (rest : Option Text) (class : Class) (call : Call) → form_of first rest ≡ record { class = class; call = Ok call } → is_open s ≡ true → takes (last s.tasks) class ≡ true → body_line s n first rest ≡ Ok (with_line s n call)
unfolding body_line
body_back s n first rest class call form opened taken = rw (form, opened, taken) refl

-- a whole text
pub whole : (text : Text) (t : Script) (m : ℕ) → length text ≤ most_bytes → Reads empty 1 text t m → script_of text ≡ Ok t
unfolding script_of lines_from lines_of
whole text t m short p =
    let all : lines_from empty 1 (lines_of text) ≡ Ok t = rw append-nil at (p.reads []) in
    rw (le-leb (length text) most_bytes short) all
