-- What lists that may be absent stand for.
use Rattle.std.specs.Prelude.{List, [], Option, None, Some}

-- the rows of a list, none where it is absent
abbrev pub rows_there : {A : Type 0} → Option (List A) → List A
rows_there None = []
rows_there (Some rows) = rows
