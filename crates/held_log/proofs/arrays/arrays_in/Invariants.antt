use Rattle.std.specs.Prelude.{option_map}
use Rattle.flat_tables.specs.Rows.{each}
use Rattle.file_fields.specs.Fields.{id_key}
use Rattle.txn_file.specs.Logs.{array_key, array_at}
use Rattle.held_manifest.proofs.Checked.{Checked}
use Rattle.held_log.proofs.arrays.arrays_in.Given as goal

abbrev pub invariant-loop-at : goal.invariant-loop-at
invariant-loop-at l = Checked array_key 7 (each (array_at l.vector)) l.vector.count (option_map id_key l.last) l.at
