use Rattle.conflicts.proofs.LawProofs.{solved-law}
use Rattle.conflicts.proofs.laws.solved_law.Goals as goal

pub returns : goal.returns
returns c = solved-law
