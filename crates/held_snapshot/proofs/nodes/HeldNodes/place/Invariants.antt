use Rattle.std.proofs.Common.{◌-◌}
use Rattle.snapshot_file.specs.Snapshots.{node_key}
use Rattle.held_manifest.proofs.Halves.{Narrowed}
use Rattle.held_snapshot.proofs.nodes.HeldNodes.place.Given as goal

abbrev pub invariant-loop-low : goal.invariant-loop-low
invariant-loop-low l = Narrowed node_key l.self l.path l.low l.high

abbrev pub decreases-loop-low : goal.decreases-loop-low
decreases-loop-low l = l.high - l.low
