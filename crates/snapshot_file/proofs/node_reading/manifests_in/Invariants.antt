use Rattle.flat_tables.specs.Rows.{each}
use Rattle.flat_tables.proofs.Loop.{SoFar}
use Rattle.snapshot_file.specs.Nodes.{manifest_at}
use Rattle.snapshot_file.proofs.node_reading.manifests_in.Given as goal

abbrev pub invariant-loop-at : goal.invariant-loop-at
invariant-loop-at l = SoFar (each (manifest_at l.vector)) l.vector.count l.manifests.items l.at
