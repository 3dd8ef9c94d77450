use Rattle.rebase.proofs.Lawful.{rebase-law}
use Rattle.rebase.proofs.laws.rebase_law.Goals as goal

pub returns : goal.returns
returns c = rebase-law c.ref_law.ensures c.snapshot_law.ensures
