use Rattle.flat_tables.specs.Rows.{each, in_order}
use Rattle.flat_tables.proofs.Loop.{SoFar}
use Rattle.txn_file.specs.Logs.{id_at}
use Rattle.file_fields.specs.Fields.{id_key}
use Rattle.txn_file.proofs.reading.ids_in.Given as goal

abbrev pub invariant-loop-at : goal.invariant-loop-at
invariant-loop-at l = SoFar (in_order id_key l.slot (each (id_at l.vector))) l.vector.count l.ids.items l.at
