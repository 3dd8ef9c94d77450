use Rattle.std.proofs.Common.{true}
use Rattle.snapshot_file.specs.Snapshots.{is_listed}
use Rattle.held_snapshot.proofs.Found.{Before}
use Rattle.held_snapshot.proofs.listed_files.all_listed.Given as goal

abbrev pub invariant-loop-i : goal.invariant-loop-i
invariant-loop-i l = Before (is_listed l.files) true l.manifests l.i
