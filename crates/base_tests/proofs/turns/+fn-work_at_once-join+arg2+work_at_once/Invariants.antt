use Rattle.std.proofs.Common.{◌+◌, ◌*◌}
use Rattle.base_tests.proofs.turns.+fn-work_at_once-join+arg2+work_at_once.Given as goal

abbrev pub decreases-work_at_once : goal.decreases-work_at_once
decreases-work_at_once g l = 2 * l.last

abbrev pub decreases-join+arg2 : goal.decreases-join+arg2
decreases-join+arg2 g l = 2 * l.before + 1
