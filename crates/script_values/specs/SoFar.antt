-- What was read so far, as the contracts of the functions that read parts say it.
use Rattle.std.specs.Prelude.{List, [], ◌∷◌, ◌++◌, Result, Vec}
use Rattle.script_values.specs.declared.kinds.ScriptKind.{ScriptKind}
use Rattle.script_values.specs.Parts.{made}

-- parts read so far, or the earliest fault so far
abbrev pub parts_seen : {A Z : Type 0} → Result (Vec A Z) ScriptKind → Result (List A) ScriptKind
parts_seen parts = made (λ v. v.items) parts

abbrev pub one_more : {A : Type 0} → List A × A → List A
one_more v = v.0 ++ v.1 ∷ []
