use Rattle.flat_tables.specs.Rows.{each, in_order}
use Rattle.flat_tables.proofs.Loop.{SoFar}
use Rattle.snapshot_file.specs.Snapshots.{property_at}
use Rattle.snapshot_file.specs.Props.{prop_key}
use Rattle.snapshot_file.proofs.property_reading.properties_in.Given as goal

abbrev pub invariant-loop-at : goal.invariant-loop-at
invariant-loop-at l = SoFar (in_order prop_key 5 (each (property_at l.vector))) l.vector.count l.rows.items l.at
