use Rattle.settle.proofs.Lawful.{settle-law}
use Rattle.settle.proofs.laws.settle_law.Goals as goal

pub returns : goal.returns
returns c = settle-law c.snapshot_law.ensures
