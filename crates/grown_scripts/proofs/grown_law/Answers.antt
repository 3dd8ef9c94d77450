use Rattle.grown_scripts.proofs.Whole.{grown_law}
use Rattle.grown_scripts.proofs.grown_law.Goals as goal

pub returns : goal.returns
returns c = grown_law
