-- Own: the script that a text stands for, or its first fault.
use Rattle.std.specs.Prelude.{◌≡◌, ℕ, ◌+◌, List, [], ◌∷◌, ◌==◌, nat_le, if◌then◌else◌}
use Rattle.std.specs.Prelude.{None, Result, Ok, Err, length, take, count_by}
use Rattle.script_values.specs.declared.kinds.ScriptKind.{ScriptKind}
use Rattle.script_values.specs.declared.kinds.ScriptKind.TheVariants.{Long}
use Rattle.play_script.specs.declared.faults.ScriptFault.{ScriptFault}
use Rattle.play_script.specs.declared.faults.ScriptFault.TheVariants.{At, NoMemory}
use Rattle.play_script.specs.declared.scripts.Script.{Script}
use Rattle.script_values.specs.Words.{Text, lines_of}
use Rattle.play_script.specs.Places.{line_at}

-- how many bytes a script may have
abbrev pub most_bytes : ℕ
most_bytes = 1048576

-- what a line is read as, if it can be, and then more; else its number and kind
abbrev pub at_line : ℕ → Result Script ScriptKind → (Script → Result Script (ℕ × ScriptKind))
    → Result Script (ℕ × ScriptKind)
at_line n (Ok s) more = more s
at_line n (Err kind) more = Err (n, kind)

-- the script s and these lines behind it, of which the first has the number n
unfoldable pub lines_from : Script → ℕ → List Text → Result Script (ℕ × ScriptKind)
lines_from s n [] = Ok s
lines_from s n (l ∷ ls) = at_line n (line_at s n ls l) (λ t. lines_from t (n + 1) ls)

abbrev pub empty : Script
empty = record { tasks = []; turns = None }

-- how many line feeds a text has
abbrev pub feeds : Text → ℕ
feeds text = count_by (λ b. b == 10) text

-- the script that a text stands for, or the number of the first line that is refused, and why
unfoldable pub script_of : Text → Result Script (ℕ × ScriptKind)
script_of text =
    if nat_le (length text) most_bytes then lines_from empty 1 (lines_of text)
    else Err (feeds (take most_bytes text) + 1, Long)

-- a call answers what a text stands for; want of memory may come instead
abbrev pub IsReading : Result Script (ℕ × ScriptKind) → Result Script ScriptFault → Type 0
IsReading reading (Ok s) = reading ≡ Ok s
IsReading reading (Err (At line kind)) = reading ≡ Err (line, kind)
IsReading reading (Err NoMemory) = Unit {0}
