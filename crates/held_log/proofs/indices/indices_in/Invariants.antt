use Rattle.std.specs.Prelude.{option_map}
use Rattle.flat_tables.specs.Rows.{each}
use Rattle.txn_file.specs.Logs.{index_at}
use Rattle.file_fields.specs.Fields.{index_key}
use Rattle.held_manifest.proofs.Checked.{Checked}
use Rattle.held_log.proofs.indices.indices_in.Given as goal

abbrev pub invariant-loop-at : goal.invariant-loop-at
invariant-loop-at l = Checked index_key 1 (each (index_at l.vector)) l.vector.count (option_map index_key l.last) l.at
