use Rattle.flat_tables.specs.Rows.{each, in_order}
use Rattle.flat_tables.proofs.Loop.{SoFar}
use Rattle.txn_file.specs.Logs.{array_key, array_at}
use Rattle.txn_file.proofs.reading.arrays_in.Given as goal

abbrev pub invariant-loop-at : goal.invariant-loop-at
invariant-loop-at l = SoFar (in_order array_key 7 (each (array_at l.vector))) l.vector.count l.arrays.items l.at
