use Rattle.std.proofs.Common.{refl}
use Rattle.refs_admin.proofs.Walks.{state-over, walk-deep, walk-next}
use Rattle.refs_admin.proofs.log.Log.onto.Goals as goal

pub returns-then-walk-eq0-clause-lands : goal.returns-then-walk-eq0-clause-lands
returns-then-walk-eq0-clause-lands c = (state-over _ c.requires.ended, λ n. walk-deep _ _ _ c.if-walk-eq0.true)

pub returns-clause-lands : goal.returns-clause-lands
returns-clause-lands c = rw c.put_back.ensures (refl, walk-next _ _ _ c.if-walk-eq0.false)
