use Rattle.std.proofs.Common.{◌-◌}
use Rattle.snapshot_file.specs.Snapshots.{file_key}
use Rattle.held_manifest.proofs.Halves.{Narrowed}
use Rattle.held_snapshot.proofs.files.FileVector.find.Given as goal

abbrev pub invariant-loop-low : goal.invariant-loop-low
invariant-loop-low l = Narrowed file_key l.self l.id.0 l.low l.high

abbrev pub decreases-loop-low : goal.decreases-loop-low
decreases-loop-low l = l.high - l.low
