use Rattle.reach.proofs.Own.{own-law}
use Rattle.reach.proofs.own_law.Goals as goal

pub returns : goal.returns
returns c = own-law
