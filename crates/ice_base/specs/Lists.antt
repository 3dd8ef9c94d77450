-- Lists of bytes.
use Rattle.std.specs.Prelude.{ℕ, ◌<◌, List, All}

abbrev pub IsBytes : List ℕ → Type 0
IsBytes xs = All (λ byte. byte < 256) xs
