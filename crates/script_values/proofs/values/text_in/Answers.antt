use Rattle.std.proofs.Common.{◌≡◌, sym, ap, ◌∙◌, Bool, true, cond, Result, Ok, Err}
use Rattle.std.specs.Prelude.{IfOk}
use Rattle.std.specs.Str.{is_utf8}
use Rattle.script_values.specs.declared.kinds.ScriptKind.TheVariants as k
use Rattle.script_values.specs.Words.{Text}
use Rattle.script_values.specs.Values.{text_of}
use Rattle.script_values.proofs.Utf8.{is_text}
use Rattle.script_values.proofs.values.text_in.Goals as goal

taken_as : {E : Type 0} (text : Text) (r : Result Text E) → is_utf8 text ≡ true → IfOk r (λ message. message ≡ text) → IfOk r (λ message. text_of text ≡ Ok message)
taken_as text (Ok message) utf8 same = ap (λ (b : Bool). cond b (Ok text) (Err k.Text)) utf8 ∙ ap (λ (x : Text). Ok x) (sym same)
taken_as text (Err fault) utf8 same = tt

pub returns : goal.returns
returns c = taken_as c.args.word.now c.of.result (is_text c.args.word.now c.utf8.word) c.of.ensures
