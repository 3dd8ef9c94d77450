use Rattle.reach.proofs.Parents.{parent-stays}
use Rattle.reach.proofs.parents_law.Goals as goal

pub returns : goal.returns
returns c = parent-stays
