use Rattle.changed_snapshot.proofs.Keeping.{frozen-law}
use Rattle.changed_snapshot.proofs.laws.frozen_law.Goals as goal

pub returns : goal.returns
returns c = frozen-law
