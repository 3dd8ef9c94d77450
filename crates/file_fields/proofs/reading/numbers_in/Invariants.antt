use Rattle.std.proofs.Common.{◌≡◌, ◌++◌, ◌-◌, map}
use Rattle.std.specs.Int.{w32, from_le_bytes}
use Rattle.flat_tables.specs.Places.{items_from, items_of}
use Rattle.file_fields.proofs.reading.numbers_in.Given as goal

abbrev pub invariant-loop-at : goal.invariant-loop-at
invariant-loop-at l = l.numbers.items ++ map (from_le_bytes w32) (items_from l.vector l.at (l.vector.count - l.at)) ≡ map (from_le_bytes w32) (items_of l.vector)
