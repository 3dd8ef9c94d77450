use Rattle.std.proofs.Common.{false}
use Rattle.std.specs.Prelude.{not}
use Rattle.snapshot_file.specs.Snapshots.{all_listed}
use Rattle.held_snapshot.proofs.Found.{Before}
use Rattle.held_snapshot.proofs.listed_files.first_unlisted.Given as goal

abbrev pub invariant-loop-at : goal.invariant-loop-at
invariant-loop-at l = Before (λ node. not (all_listed l.files node)) false l.nodes l.at
