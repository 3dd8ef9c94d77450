use Rattle.settled_doubts.proofs.Doubts.{doubt-law}
use Rattle.settled_doubts.proofs.doubt_law.Goals as goal

pub returns : goal.returns
returns c = doubt-law c.snapshot_law.ensures c.initial_law.ensures
