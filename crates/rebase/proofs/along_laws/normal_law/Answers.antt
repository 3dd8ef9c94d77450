use Rattle.rebase.proofs.Following.{normal-law}
use Rattle.rebase.proofs.along_laws.normal_law.Goals as goal

pub returns : goal.returns
returns c = normal-law
