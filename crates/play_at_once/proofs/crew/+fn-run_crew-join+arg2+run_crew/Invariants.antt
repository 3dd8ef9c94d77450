use Rattle.std.proofs.Common.{◌+◌, ◌*◌, vec_len}
use Rattle.play_at_once.proofs.crew.+fn-run_crew-join+arg2+run_crew.Given as goal

abbrev pub decreases-join+arg2 : goal.decreases-join+arg2
decreases-join+arg2 g l = 2 * vec_len l.workers + 1

abbrev pub decreases-run_crew : goal.decreases-run_crew
decreases-run_crew g l = 2 * vec_len l.workers
