use Rattle.rebase.proofs.Following.{quiet-law}
use Rattle.rebase.proofs.along_laws.quiet_law.Goals as goal

pub returns : goal.returns
returns c = quiet-law
