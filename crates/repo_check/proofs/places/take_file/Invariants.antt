use Rattle.std.proofs.Common.{◌≡◌, ◌≤◌}
use Rattle.repo_check.specs.inside.Working.{new_files}
use Rattle.repo_check.proofs.places.take_file.Given as goal

abbrev pub invariant-loop-visit : goal.invariant-loop-visit
invariant-loop-visit l = record {
  left : new_files l.work.files l.initial.place.files ≡ new_files l.work.files l.place.files;
  parent : l.place.parent ≡ l.initial.place.parent;
  steps : l.place.steps ≤ l.initial.place.steps;
}

abbrev pub decreases-loop-visit : goal.decreases-loop-visit
decreases-loop-visit l = l.place.steps
