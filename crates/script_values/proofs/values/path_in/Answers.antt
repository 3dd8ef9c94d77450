use Rattle.std.proofs.Common.{◌≡◌, Option, refl, ap, ◌∙◌, Bool, true, false, cond, Result, Ok, Err, None}
use Rattle.std.specs.Prelude.{◌&&◌}
use Rattle.std.specs.Str.{is_utf8}
use Rattle.std.specs.Option.{is_none}
use Rattle.zarr_path.specs.declared.paths.PathFault.{PathFault}
use Rattle.zarr_path.specs.Paths.{is_path, path_fault}
use Rattle.script_values.specs.declared.kinds.ScriptKind.{ScriptKind}
use Rattle.script_values.specs.declared.kinds.ScriptKind.TheVariants as k
use Rattle.script_values.specs.Words.{Text}
use Rattle.script_values.specs.Values.{path_of}
use Rattle.script_values.proofs.Utf8.{is_text}
use Rattle.script_values.proofs.values.path_in.Goals as goal

both : (a b : Bool) (w : Text) → a ≡ true → b ≡ true → ◌≡◌ {A = Result Text ScriptKind} (Ok w) (cond (a && b) (Ok w) (Err k.Path))
both true true w x y = refl
both true false w x y = absurd (cc)
both false b w x y = absurd (cc)

read_back : (w path : Text) → path ≡ w → path_fault w ≡ None → is_utf8 w ≡ true → ◌≡◌ {A = Result Text ScriptKind} (Ok path) (path_of w)
unfolding path_of
read_back w path same none text = ap (λ (x : Text). Ok x) same ∙ both (is_path w) (is_utf8 w) w (ap (λ (f : Option PathFault). is_none f) none) text

pub returns-in-Ok : goal.returns-in-Ok
returns-in-Ok c = read_back c.args.word.now c.in-Ok.path c.in-Ok.ensures.value.0 c.in-Ok.ensures.value.1 (is_text c.args.word.now c.utf8.word)
