use Rattle.flat_tables.specs.Rows.{each}
use Rattle.flat_tables.proofs.Loop.{SoFar}
use Rattle.snapshot_file.specs.Nodes.{name_at}
use Rattle.snapshot_file.proofs.node_reading.names_in.Given as goal

abbrev pub invariant-loop-at : goal.invariant-loop-at
invariant-loop-at l = SoFar (each (name_at l.vector)) l.vector.count l.names.items l.at
