use Rattle.flat_tables.specs.Rows.{each, in_order}
use Rattle.flat_tables.proofs.Loop.{SoFar}
use Rattle.txn_file.specs.Logs.{index_at}
use Rattle.file_fields.specs.Fields.{index_key}
use Rattle.txn_file.proofs.reading.indices_in.Given as goal

abbrev pub invariant-loop-at : goal.invariant-loop-at
invariant-loop-at l = SoFar (in_order index_key 1 (each (index_at l.vector))) l.vector.count l.indices.items l.at
