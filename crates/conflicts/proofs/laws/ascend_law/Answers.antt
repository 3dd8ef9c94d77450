use Rattle.conflicts.proofs.Rising.{ascend-law}
use Rattle.conflicts.proofs.laws.ascend_law.Goals as goal

pub returns : goal.returns
returns c = ascend-law
