use Rattle.changed_snapshot.proofs.OwnManifests.{own-law}
use Rattle.changed_snapshot.proofs.laws.own_law.Goals as goal

pub returns : goal.returns
returns c = own-law
