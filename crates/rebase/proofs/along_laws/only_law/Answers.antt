use Rattle.rebase.proofs.Only.{only-law}
use Rattle.rebase.proofs.along_laws.only_law.Goals as goal

pub returns : goal.returns
returns c = only-law
