use Rattle.std.specs.Prelude.{option_map}
use Rattle.flat_tables.specs.Rows.{each}
use Rattle.snapshot_file.specs.Props.{prop_key}
use Rattle.snapshot_file.specs.Snapshots.{property_at}
use Rattle.held_manifest.proofs.Checked.{Checked}
use Rattle.held_snapshot.proofs.props.check_properties.Given as goal

abbrev pub invariant-loop-at : goal.invariant-loop-at
invariant-loop-at l = Checked prop_key 5 (each (property_at l.vector)) l.vector.count (option_map (λ x. x.now) l.last) l.at
