use Rattle.std.proofs.Common.{◌≡◌, ◌≤◌}
use Rattle.intact.specs.Places.{files_from, steps_from}
use Rattle.intact.proofs.snapshots.file_from.Given as goal

abbrev pub invariant-loop-i : goal.invariant-loop-i
invariant-loop-i l = record {
  left : files_from l.row l.at l.loaded.nodes ≡ files_from l.i l.from l.loaded.nodes;
  steps : steps_from l.i l.from ≤ steps_from l.row l.at;
}
