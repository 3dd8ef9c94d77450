-- The text of the script of `cells BRANCH PATH FROM TO` (own).
use Rattle.std.specs.Prelude.{ℕ, List, ◌++◌, codes}

-- a task that reads at a branch, and its one line
abbrev pub cells_text : List ℕ → List ℕ → List ℕ → List ℕ → List ℕ
cells_text branch path from to =
    codes "task cells read branch " ++ branch ++ codes "\ncells " ++ path ++ codes " " ++ from
    ++ codes " " ++ to ++ codes "\n"
