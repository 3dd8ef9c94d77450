use Rattle.repo_check.specs.Resting.{check_left}
use Rattle.mirror_tests.proofs.looking.checked.Given as goal

abbrev pub invariant-loop-check : goal.invariant-loop-check
invariant-loop-check g l = Unit {0}

abbrev pub decreases-loop-check : goal.decreases-loop-check
decreases-loop-check g l = check_left l.check
