-- What `grow` makes is a script (own).
use Rattle.std.specs.Prelude.{◌≡◌, ℕ, ◌+◌, ◌≤◌, Ok, length}
use Rattle.play_script.specs.declared.scripts.Script.{Script}
use Rattle.play_script.specs.Reading.{script_of}
use Rattle.grow_script.specs.Script.{script_text}

-- for each n from 1 to 60 the text stands for a script of n tasks and the base task
abbrev pub GrownLaw : Type 0
GrownLaw =
    (n : ℕ) → 1 ≤ n → n ≤ 60
    → (s : Script) × (script_of (script_text n) ≡ Ok s) × (length s.tasks ≡ n + 1)
