-- What numbers and rows that are read in place stand for.
use Rattle.std.specs.Prelude.{ℕ, List, [], map, Result, Ok, Err}
use Rattle.std.specs.Int.{w32, from_le_bytes}
use Rattle.flat_tables.specs.declared.fault.FileFault.{FileFault}
use Rattle.flat_tables.specs.Places.{VectorIn, items_of}

-- the numbers of a vector
abbrev pub numbers_in : VectorIn → List ℕ
numbers_in v = map (from_le_bytes w32) (items_of v)

-- the rows that were read, and none where there is a fault
abbrev pub rows_or_none : {A : Type 0} → Result (List A) FileFault → List A
rows_or_none (Ok rows) = rows
rows_or_none (Err fault) = []
