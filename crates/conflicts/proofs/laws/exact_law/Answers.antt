use Rattle.conflicts.proofs.Exactness.{exact-law}
use Rattle.conflicts.proofs.laws.exact_law.Goals as goal

pub returns : goal.returns
returns c = exact-law
