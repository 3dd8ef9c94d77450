use Rattle.std.specs.Int.{w32, to_le_bytes}
use Rattle.flat_tables.proofs.Building.{BytesBuilt}
use Rattle.file_fields.proofs.writing.index_slot.Given as goal

abbrev pub invariant-loop-number : goal.invariant-loop-number
invariant-loop-number l = BytesBuilt (to_le_bytes w32) (λ x. x) 4 l.number-items l.number-index l.bytes.items
