use Rattle.std.proofs.Common.{◌≡◌, ◌∙◌, ℕ, cond, List, Some, None, IfOk, Result, Ok, Err, sym, ap}
use Rattle.std.proofs.lemmas.Str.{is_utf8-from_IsUtf8}
use Rattle.changed_snapshot.specs.Rows.{name_of}
use Rattle.changed_snapshot.proofs.names.copy_text.Goals as goal

copied : {E : Type 0} (text : List ℕ) → name_of text ≡ Some text → (r : Result (List ℕ) E) → IfOk r (λ copy. copy ≡ text) → IfOk r (λ copy. name_of text ≡ Some copy)
copied text is (Ok copy) same = is ∙ ap (λ (x : List ℕ). Some x) (sym same)
copied text is (Err fault) same = tt

-- a `str` is UTF-8
pub returns : goal.returns
returns c = copied c.args.text.now (ap (λ b. cond b (Some c.args.text.now) None) (is_utf8-from_IsUtf8 c.args.text.now c.utf8.text)) c.of.result c.of.ensures
