-- Own: parts of a line, all of their values, or the earliest kind of fault.
use Rattle.std.specs.Prelude.{ℕ, Bool, true, false, Result, Ok, Err}
use Rattle.std.specs.Prelude.{List, [], ◌∷◌, nat_le, if◌then◌else◌, codes}
use Rattle.script_values.specs.declared.kinds.ScriptKind.{ScriptKind}
use Rattle.script_values.specs.declared.kinds.ScriptKind.TheVariants as k

-- the order in which kinds are told
abbrev pub rank : ScriptKind → ℕ
rank k.Long = 0
rank k.Text = 1
rank k.Word = 2
rank k.Misplaced = 3
rank k.Many = 4
rank k.Name = 5
rank k.Path = 6
rank k.Number = 7
rank k.Hex = 8
rank k.Id = 9
rank k.Turn = 10

abbrev pub earlier : ScriptKind → ScriptKind → ScriptKind
earlier kind other = if nat_le (rank kind) (rank other) then kind else other

-- how a kind is printed
abbrev pub kind_text : ScriptKind → List ℕ
kind_text k.Long = codes "long"
kind_text k.Text = codes "text"
kind_text k.Word = codes "word"
kind_text k.Misplaced = codes "place"
kind_text k.Many = codes "many"
kind_text k.Name = codes "name"
kind_text k.Path = codes "path"
kind_text k.Number = codes "number"
kind_text k.Hex = codes "hex"
kind_text k.Id = codes "id"
kind_text k.Turn = codes "turn"

-- two parts: a line's fault is the earliest of the faults of its parts
infixl 20 ◌&◌
abbrev pub ◌&◌ : {A B : Type 0} → Result A ScriptKind → Result B ScriptKind
    → Result (A × B) ScriptKind
(Ok x) & (Ok y) = Ok (x, y)
(Ok x) & (Err kind) = Err kind
(Err kind) & (Ok y) = Err kind
(Err kind) & (Err other) = Err (earlier kind other)

-- what is made of parts
abbrev pub made : {A B : Type 0} → (A → B) → Result A ScriptKind → Result B ScriptKind
made f (Ok x) = Ok (f x)
made f (Err kind) = Err kind

-- the same part of each word
abbrev pub each : {A B : Type 0} → (A → Result B ScriptKind) → List A → Result (List B) ScriptKind
each f [] = Ok []
each f (w ∷ ws) = made (λ p. p.0 ∷ p.1) (f w & each f ws)

-- a part without a value
abbrev pub only_if : Bool → ScriptKind → Result (Unit {0}) ScriptKind
only_if true kind = Ok tt
only_if false kind = Err kind

-- what another reading refuses, told as this kind
abbrev pub told_as : {A F : Type 0} → ScriptKind → Result A F → Result A ScriptKind
told_as kind (Ok x) = Ok x
told_as kind (Err fault) = Err kind
