use Rattle.std.specs.Prelude.{option_map}
use Rattle.ice_ids.specs.declared.Id12.{Id12}
use Rattle.flat_tables.specs.Rows.{each}
use Rattle.snapshot_file.specs.Snapshots.{file_key, info_at}
use Rattle.held_manifest.proofs.Checked.{Checked}
use Rattle.held_snapshot.proofs.files.files_in.Given as goal

abbrev pub invariant-loop-at : goal.invariant-loop-at
invariant-loop-at l = Checked file_key 6 (each (info_at l.vector)) l.vector.count (option_map (λ (id : Id12). id.0) l.last) l.at
