use Rattle.run_histories.proofs.Joined.{begun-law}
use Rattle.run_histories.proofs.begun_law.Goals as goal

pub returns : goal.returns
returns c = begun-law c.initial_law.ensures
