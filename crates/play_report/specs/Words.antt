-- Words of a line.
use Rattle.std.specs.Prelude.{ℕ, List, ◌++◌, codes}

-- words with a space between
infixr 60 ◌space◌
abbrev pub ◌space◌ : List ℕ → List ℕ → List ℕ
first space rest = first ++ (codes " " ++ rest)
