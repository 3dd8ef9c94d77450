use Rattle.std.proofs.Common.{◌≡◌, ◌≤◌, length}
use Rattle.repo_check.specs.inside.Working.{new_parts}
use Rattle.repo_check.proofs.places.take_part.Given as goal

abbrev pub invariant-loop-visit : goal.invariant-loop-visit
invariant-loop-visit l = record {
  left : new_parts l.work.parts l.initial.place ≡ new_parts l.work.parts l.place;
  fewer : length l.place ≤ length l.initial.place;
}

abbrev pub decreases-loop-visit : goal.decreases-loop-visit
decreases-loop-visit l = length l.place
