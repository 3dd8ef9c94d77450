-- What `cells` makes is the script of its box (own).
use Rattle.std.specs.Prelude.{◌≡◌, ◌≢◌, ℕ, ◌≤◌, ◌==◌, ◌&&◌, not, List, [], ◌∷◌}
use Rattle.std.specs.Prelude.{None, Result, Ok, Err, IsTrue, length, codes}
use Rattle.std.specs.List.{list_all}
use Rattle.std.specs.Str.{is_utf8}
use Rattle.repo_read.specs.declared.resolving.At.TheVariants as at
use Rattle.script_values.specs.declared.kinds.ScriptKind.{ScriptKind}
use Rattle.script_calls.specs.declared.calls.CellBox.{CellBox}
use Rattle.script_calls.specs.declared.calls.Call.TheVariants as call
use Rattle.script_calls.specs.declared.calls.ReadCall.TheVariants as read
use Rattle.script_calls.specs.declared.calls.Access.TheVariants as access
use Rattle.script_calls.specs.declared.calls.Head.TheVariants as head
use Rattle.play_script.specs.declared.scripts.Line.{Line}
use Rattle.play_script.specs.declared.scripts.Script.{Script}
use Rattle.script_values.specs.Words.{Text}
use Rattle.script_values.specs.Values.{ref_name_of}
use Rattle.script_calls.specs.Forms.{box_of}
use Rattle.play_script.specs.Reading.{most_bytes, script_of}
use Rattle.cells_script.specs.Script.{cells_text}

-- a word of a line: text that isn't empty, without a space and a line feed
pub record IsWord (word : Text) : Type 0 where
  pub some : word ≢ []
  pub whole : IsTrue (list_all (λ b. not (b == 32) && not (b == 10)) word)
  pub text : IsTrue (is_utf8 word)

-- one task, which reads at a branch, with these lines
abbrev pub reading : Text → List Line → Script
reading branch body = record {
  tasks = record {
    name = codes "cells";
    line = 1;
    head = head.Session (access.Read (at.Branch branch));
    body = body;
  } ∷ [];
  turns = None;
}

-- the numbers of a box of cells are shown
abbrev pub box_line : CellBox → Line
box_line place = record { number = 2; call = call.Read (read.Cells place) }

-- the script by its branch and its box, where both can be read
abbrev pub box_script : Result Text ScriptKind → Result CellBox ScriptKind
    → Result Script (ℕ × ScriptKind)
box_script (Ok branch) (Ok place) = Ok (reading branch (box_line place ∷ []))
box_script (Ok branch) (Err kind) = Err (2, kind)
box_script (Err kind) place = Err (1, kind)

-- the text stands for the script of the branch and the box that its words stand
-- for, or for the fault of these
abbrev pub BoxesLaw : Type 0
BoxesLaw =
    (branch path from to : Text) → IsWord branch → IsWord path → IsWord from → IsWord to
    → length (cells_text branch path from to) ≤ most_bytes
    → script_of (cells_text branch path from to)
    ≡ box_script (ref_name_of branch) (box_of path from to)
