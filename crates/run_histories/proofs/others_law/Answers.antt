use Rattle.run_histories.proofs.Joined.{others-law}
use Rattle.run_histories.proofs.others_law.Goals as goal

pub returns : goal.returns
returns c = others-law
