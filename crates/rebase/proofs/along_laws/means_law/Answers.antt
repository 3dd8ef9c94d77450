use Rattle.rebase.proofs.Meaning.{means-law}
use Rattle.rebase.proofs.along_laws.means_law.Goals as goal

pub returns : goal.returns
returns c = means-law
