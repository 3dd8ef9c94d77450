use Rattle.conflicts.proofs.LawProofs.{given-law}
use Rattle.conflicts.proofs.laws.given_law.Goals as goal

pub returns : goal.returns
returns c = given-law
