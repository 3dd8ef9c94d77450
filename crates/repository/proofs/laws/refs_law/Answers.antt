use Rattle.repository.proofs.Closing.{refs-law}
use Rattle.repository.proofs.laws.refs_law.Goals as goal

pub returns : goal.returns
returns c = refs-law
