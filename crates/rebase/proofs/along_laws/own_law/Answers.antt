use Rattle.rebase.proofs.Owned.{own-law}
use Rattle.rebase.proofs.along_laws.own_law.Goals as goal

pub returns : goal.returns
returns c = own-law
