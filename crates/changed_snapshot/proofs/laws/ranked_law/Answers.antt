use Rattle.changed_snapshot.proofs.Keeping.{ranked-law}
use Rattle.changed_snapshot.proofs.laws.ranked_law.Goals as goal

pub returns : goal.returns
returns c = ranked-law
