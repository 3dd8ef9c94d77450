use Rattle.run_histories.proofs.Joined.{run-law}
use Rattle.run_histories.proofs.run_law.Goals as goal

pub returns : goal.returns
returns c = run-law c.initial_law.ensures
