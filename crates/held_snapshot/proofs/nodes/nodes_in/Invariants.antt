use Rattle.std.specs.Prelude.{option_map}
use Rattle.flat_tables.specs.Rows.{each}
use Rattle.snapshot_file.specs.Nodes.{node_at}
use Rattle.snapshot_file.specs.Snapshots.{node_key}
use Rattle.held_manifest.proofs.Checked.{Checked}
use Rattle.held_snapshot.proofs.nodes.nodes_in.Given as goal

abbrev pub invariant-loop-at : goal.invariant-loop-at
invariant-loop-at l = Checked node_key 2 (each (node_at l.vector)) l.vector.count (option_map (λ x. x.now) l.last) l.at
