use Rattle.changed_snapshot.proofs.Proper.{proper-law}
use Rattle.changed_snapshot.proofs.laws.proper_law.Goals as goal

pub returns : goal.returns
returns c = proper-law
