use Rattle.std.proofs.Common.{◌≡◌, ◌≤◌, length}
use Rattle.repo_check.specs.inside.Working.{new_roots}
use Rattle.repo_check.proofs.places.take_root.Given as goal

abbrev pub invariant-loop-id : goal.invariant-loop-id
invariant-loop-id l = record {
  left : new_roots l.work.met l.initial.roots ≡ new_roots l.work.met l.roots;
  fewer : length l.roots ≤ length l.initial.roots;
}

abbrev pub decreases-loop-id : goal.decreases-loop-id
decreases-loop-id l = length l.roots
