-- The two lines of `cells`.
use Rattle.std.proofs.Common.{◌≡◌, ◌≢◌, ℕ, ◌<◌, ◌≤◌, Bool, true, false, List, [], ◌∷◌, ◌++◌, length, Option, Some, Result, Ok, Err, refl, sym, ap, ◌∙◌, append_assoc, arith}
use Rattle.std.specs.Prelude.{codes, ◌&&◌, ◌==◌, not}
use Rattle.std.specs.List.{list_all}
use Rattle.std.specs.Str.{is_utf8}
use Rattle.std.proofs.lemmas.Bool.{and_parts, le-leb}
use Rattle.std.proofs.lemmas.Str.{IsUtf8-append, IsUtf8-from_is_utf8, is_utf8-from_IsUtf8}
use Rattle.repo_read.specs.declared.resolving.At.TheVariants as at
use Rattle.script_values.specs.declared.kinds.ScriptKind.{ScriptKind}
use Rattle.script_calls.specs.declared.calls.CellBox.{CellBox}
use Rattle.script_calls.specs.declared.calls.Call.TheVariants as call
use Rattle.script_calls.specs.declared.calls.ReadCall.TheVariants as read
use Rattle.script_calls.specs.declared.calls.Access.TheVariants as access
use Rattle.script_calls.specs.declared.calls.Head.TheVariants as head
use Rattle.script_calls.specs.declared.calls.Class.TheVariants as c
use Rattle.play_script.specs.declared.scripts.Script.{Script}
use Rattle.script_calls.specs.declared.forms.Form.{Form}
use Rattle.script_values.specs.Words.{Text, lines_of, cut_of, two, three}
use Rattle.script_values.specs.Parts.{made}
use Rattle.script_values.specs.Values.{ref_name_of, task_name_of}
use Rattle.script_calls.specs.Forms.{at_of, lone_at, box_of, lone_box, head_of, node_edit_of, chunk_edit_of, key_edit_of, read_of, form_of}
use Rattle.play_script.specs.Places.{is_head_placed, may_begin, task_line, head_line, body_line, words_line, line_at, is_passed}
use Rattle.play_script.specs.Reading.{most_bytes, lines_from, empty, script_of}
use Rattle.cells_script.specs.Script.{cells_text}
use Rattle.grown_scripts.specs.Boxes.{IsWord, reading, box_line, box_script, BoxesLaw}
use Rattle.grown_scripts.proofs.Bytes.{all_append, all_weaker, is_not, line_text}
use Rattle.grown_scripts.proofs.Cutting.{feed_at, next_word, last_word}

-- ---- words
abbrev is_whole : ℕ → Bool
is_whole b = not (b == 32) && not (b == 10)

some_bytes : (w : Text) → w ≢ [] → 0 < length w
some_bytes [] some = absurd (some refl)
some_bytes (b ∷ bs) some = omega arith

no_space : (w : Text) → IsWord w → list_all (is_not 32) w ≡ true
no_space w is = all_weaker is_whole (is_not 32) (λ b h. (and_parts (not (b == 32)) (not (b == 10)) h).0) w is.whole

no_feed : (w : Text) → IsWord w → list_all (is_not 10) w ≡ true
no_feed w is = all_weaker is_whole (is_not 10) (λ b h. (and_parts (not (b == 32)) (not (b == 10)) h).1) w is.whole

text_append : (v w : Text) → is_utf8 v ≡ true → is_utf8 w ≡ true → is_utf8 (v ++ w) ≡ true
text_append v w a b = is_utf8-from_IsUtf8 (v ++ w) (IsUtf8-append v w (IsUtf8-from_is_utf8 v a) (IsUtf8-from_is_utf8 w b))

-- a line by its first word
by_text : (s : Script) (n : ℕ) (after : List Text) (line first : Text) (rest : Option Text) (r : Result Script ScriptKind) → is_utf8 line ≡ true → is_passed line ≡ false → cut_of 32 line ≡ (first, rest) → words_line s n after first rest ≡ r → line_at s n after line ≡ r
unfolding line_at
by_text s n after line first rest r text shown cut e = rw (text, shown, cut) e

-- ---- the head
abbrev head_rest : Text → Text
head_rest branch = codes "cells read branch " ++ branch

abbrev head_words : Text → Text
head_words branch = codes "task " ++ head_rest branch

two_words : (branch : Text) → IsWord branch → two (Some (codes "branch " ++ branch)) ≡ Some (codes "branch", branch)
unfolding cut_of
two_words branch is = rw (last_word branch (some_bytes branch is.some) (no_space branch is)) refl

at_branch : (branch : Text) → at_of (codes "branch") branch ≡ made at.Branch (ref_name_of branch)
unfolding at_of
at_branch branch = refl

lone_branch : (branch : Text) → IsWord branch → lone_at (Some (codes "branch " ++ branch)) ≡ made at.Branch (ref_name_of branch)
unfolding lone_at
lone_branch branch is = rw (two_words branch is, at_branch branch) refl

head_value : (branch : Text) → IsWord branch → head_of (codes "read") (Some (codes "branch " ++ branch)) ≡ made head.Session (made access.Read (made at.Branch (ref_name_of branch)))
unfolding head_of
head_value branch is = rw (lone_branch branch is) refl

begins : (after : List Text) → may_begin empty after (codes "cells") (codes "read") ≡ Ok tt
unfolding may_begin is_head_placed
begins after = refl

name_back : task_name_of (codes "cells") ≡ Ok (codes "cells")
unfolding task_name_of
name_back = refl

-- the script with its head alone
abbrev begun : Text → Script
begun branch = reading branch []

task_made : (after : List Text) (rest : Option Text) (r : Result Text ScriptKind) → head_of (codes "read") rest ≡ made head.Session (made access.Read (made at.Branch r)) → task_line empty 1 after (codes "cells") (codes "read") rest ≡ made begun r
unfolding task_line
task_made after rest (Ok name) e = rw (begins after, name_back, e) refl
task_made after rest (Err kind) e = rw (begins after, name_back, e) refl

head_at : (after : List Text) (branch : Text) → IsWord branch → words_line empty 1 after (codes "task") (Some (head_rest branch)) ≡ made begun (ref_name_of branch)
unfolding words_line head_line cut_of
head_at after branch is = task_made after (Some (codes "branch " ++ branch)) (ref_name_of branch) (head_value branch is)

head_cut : (branch : Text) → cut_of 32 (head_words branch) ≡ (codes "task", Some (head_rest branch))
unfolding cut_of
head_cut branch = refl

head_text : (branch : Text) → IsWord branch → is_utf8 (head_words branch) ≡ true
head_text branch is = text_append (codes "task cells read branch ") branch (line_text (codes "task cells read branch ") refl) is.text

head_line_at : (after : List Text) (branch : Text) → IsWord branch → line_at empty 1 after (head_words branch) ≡ made begun (ref_name_of branch)
head_line_at after branch is = by_text empty 1 after (head_words branch) (codes "task") (Some (head_rest branch)) _ (head_text branch is) refl (head_cut branch) (head_at after branch is)

-- ---- the box
abbrev box_rest : Text → Text → Text → Text
box_rest path from to = path ++ 32 ∷ (from ++ 32 ∷ to)

abbrev box_words : Text → Text → Text → Text
box_words path from to = codes "cells " ++ box_rest path from to

three_words : (path from to : Text) → IsWord path → IsWord from → IsWord to → three (Some (box_rest path from to)) ≡ Some (path, from, to)
three_words path from to p f t =
    rw (next_word path (from ++ 32 ∷ to) (some_bytes path p.some) (no_space path p), next_word from to (some_bytes from f.some) (no_space from f), last_word to (some_bytes to t.some) (no_space to t)) refl

lone_back : (path from to : Text) → IsWord path → IsWord from → IsWord to → lone_box (Some (box_rest path from to)) ≡ box_of path from to
unfolding lone_box
lone_back path from to p f t = rw (three_words path from to p f t) refl

abbrev box_form : Result CellBox ScriptKind → Form
box_form r = record { class = c.Read; call = made call.Read (made read.Cells r) }

form_back : (rest : Option Text) → form_of (codes "cells") rest ≡ box_form (lone_box rest)
unfolding form_of node_edit_of chunk_edit_of key_edit_of read_of
form_back rest = refl

-- the script with its one line
abbrev boxed : Text → CellBox → Script
boxed branch place = reading branch (box_line place ∷ [])

body_made : (branch : Text) (rest : Option Text) (r : Result CellBox ScriptKind) → form_of (codes "cells") rest ≡ box_form r → body_line (begun branch) 2 (codes "cells") rest ≡ made (boxed branch) r
unfolding body_line
body_made branch rest (Ok place) e = rw e refl
body_made branch rest (Err kind) e = rw e refl

box_at : (branch path from to : Text) (after : List Text) → IsWord path → IsWord from → IsWord to → words_line (begun branch) 2 after (codes "cells") (Some (box_rest path from to)) ≡ made (boxed branch) (box_of path from to)
unfolding words_line
box_at branch path from to after p f t =
    body_made branch (Some (box_rest path from to)) (box_of path from to) (form_back (Some (box_rest path from to)) ∙ ap box_form (lone_back path from to p f t))

box_cut : (path from to : Text) → cut_of 32 (box_words path from to) ≡ (codes "cells", Some (box_rest path from to))
unfolding cut_of
box_cut path from to = refl

box_text : (path from to : Text) → IsWord path → IsWord from → IsWord to → is_utf8 (box_words path from to) ≡ true
box_text path from to p f t =
    let space = line_text (32 ∷ []) refl in
    text_append (codes "cells ") (box_rest path from to) (line_text (codes "cells ") refl)
    (text_append path (32 ∷ (from ++ 32 ∷ to)) p.text (text_append (32 ∷ []) (from ++ 32 ∷ to) space (text_append from (32 ∷ to) f.text (text_append (32 ∷ []) to space t.text))))

box_line_at : (branch path from to : Text) (after : List Text) → IsWord path → IsWord from → IsWord to → line_at (begun branch) 2 after (box_words path from to) ≡ made (boxed branch) (box_of path from to)
box_line_at branch path from to after p f t =
    by_text (begun branch) 2 after (box_words path from to) (codes "cells") (Some (box_rest path from to)) _ (box_text path from to p f t) refl (box_cut path from to) (box_at branch path from to after p f t)

-- ---- both lines
head_feed : (branch : Text) → IsWord branch → list_all (is_not 10) (head_words branch) ≡ true
head_feed branch is = all_append (is_not 10) (codes "task cells read branch ") branch refl (no_feed branch is)

box_feed : (path from to : Text) → IsWord path → IsWord from → IsWord to → list_all (is_not 10) (box_words path from to) ≡ true
box_feed path from to p f t =
    all_append (is_not 10) (codes "cells ") (box_rest path from to) refl
    (all_append (is_not 10) path (32 ∷ (from ++ 32 ∷ to)) (no_feed path p)
    (all_append (is_not 10) (32 ∷ []) (from ++ 32 ∷ to) refl
    (all_append (is_not 10) from (32 ∷ to) (no_feed from f)
    (all_append (is_not 10) (32 ∷ []) to refl (no_feed to t)))))

grouped : (a b c d e f g h i : Text) → a ++ b ++ c ++ d ++ e ++ f ++ g ++ h ++ i ≡ (a ++ b) ++ (c ++ (d ++ (e ++ (f ++ (g ++ (h ++ i))))))
grouped a b c d e f g h i =
    append_assoc (a ++ b ++ c ++ d ++ e ++ f ++ g) h i
    ∙ append_assoc (a ++ b ++ c ++ d ++ e ++ f) g (h ++ i)
    ∙ append_assoc (a ++ b ++ c ++ d ++ e) f (g ++ (h ++ i))
    ∙ append_assoc (a ++ b ++ c ++ d) e (f ++ (g ++ (h ++ i)))
    ∙ append_assoc (a ++ b ++ c) d (e ++ (f ++ (g ++ (h ++ i))))
    ∙ append_assoc (a ++ b) c (d ++ (e ++ (f ++ (g ++ (h ++ i)))))

closed : (d e f g h i j : Text) → (d ++ (e ++ (f ++ (g ++ (h ++ i))))) ++ j ≡ d ++ (e ++ (f ++ (g ++ (h ++ (i ++ j)))))
closed d e f g h i j =
    append_assoc d (e ++ (f ++ (g ++ (h ++ i)))) j
    ∙ ap (λ (x : Text). d ++ x) (append_assoc e (f ++ (g ++ (h ++ i))) j
    ∙ ap (λ (x : Text). e ++ x) (append_assoc f (g ++ (h ++ i)) j
    ∙ ap (λ (x : Text). f ++ x) (append_assoc g (h ++ i) j
    ∙ ap (λ (x : Text). g ++ x) (append_assoc h i j))))

no_lines : lines_of [] ≡ []
unfolding lines_of
no_lines = refl

last_line : (w : Text) → list_all (is_not 10) w ≡ true → lines_of (w ++ 10 ∷ []) ≡ w ∷ []
last_line w h = feed_at w [] h ∙ ap (λ (ls : List Text). w ∷ ls) no_lines

both_lines : (branch path from to : Text) → IsWord branch → IsWord path → IsWord from → IsWord to → lines_of (cells_text branch path from to) ≡ head_words branch ∷ box_words path from to ∷ []
both_lines branch path from to b p f t =
    ap lines_of (grouped (codes "task cells read branch ") branch (codes "\ncells ") path (codes " ") from (codes " ") to (codes "\n"))
    ∙ feed_at (head_words branch) (codes "cells " ++ (path ++ 32 ∷ (from ++ 32 ∷ (to ++ 10 ∷ [])))) (head_feed branch b)
    ∙ ap (λ (ls : List Text). head_words branch ∷ ls) (ap lines_of (sym (closed (codes "cells ") path (codes " ") from (codes " ") to (codes "\n"))) ∙ last_line (box_words path from to) (box_feed path from to p f t))

-- ---- the script
two_lines : (h x : Text) (r : Result Text ScriptKind) (q : Result CellBox ScriptKind) → line_at empty 1 (x ∷ []) h ≡ made begun r → ((name : Text) → line_at (begun name) 2 [] x ≡ made (boxed name) q) → lines_from empty 1 (h ∷ x ∷ []) ≡ box_script r q
unfolding lines_from
two_lines h x (Err kind) q e g = rw e refl
two_lines h x (Ok name) (Ok place) e g = rw (e, g name) refl
two_lines h x (Ok name) (Err kind) e g = rw (e, g name) refl

short_text : (text : Text) (lines : List Text) (r : Result Script (ℕ × ScriptKind)) → length text ≤ most_bytes → lines_of text ≡ lines → lines_from empty 1 lines ≡ r → script_of text ≡ r
unfolding script_of
short_text text lines r short split read = rw (le-leb (length text) most_bytes short, split) read

pub boxes_law : BoxesLaw
boxes_law branch path from to b p f t short =
    short_text (cells_text branch path from to) (head_words branch ∷ box_words path from to ∷ []) _ short (both_lines branch path from to b p f t)
    (two_lines (head_words branch) (box_words path from to) (ref_name_of branch) (box_of path from to) (head_line_at (box_words path from to ∷ []) branch b) (λ name. box_line_at name path from to [] p f t))
