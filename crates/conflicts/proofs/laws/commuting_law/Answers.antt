use Rattle.conflicts.proofs.LawProofs.{commuting-law}
use Rattle.conflicts.proofs.laws.commuting_law.Goals as goal

pub returns : goal.returns
returns c = commuting-law
