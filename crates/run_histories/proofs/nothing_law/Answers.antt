use Rattle.run_histories.proofs.Joined.{nothing-law}
use Rattle.run_histories.proofs.nothing_law.Goals as goal

pub returns : goal.returns
returns c = nothing-law
