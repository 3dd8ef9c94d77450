use Rattle.repo_objects.proofs.Again.{log_again}
use Rattle.repo_objects.proofs.laws.log_law.Goals as goal

pub returns : goal.returns
returns c = λ log is ordered fits. log_again _ log (c.round_trip_law.ensures log is ordered fits)
