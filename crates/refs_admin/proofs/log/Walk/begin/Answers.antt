use Rattle.std.proofs.Common.{arith}
use Rattle.refs_admin.proofs.Walks.{walk-is-ask}
use Rattle.refs_admin.proofs.log.Walk.begin.Goals as goal

pub returns-clause-live : goal.returns-clause-live
returns-clause-live c = walk-is-ask _ _ _ (omega arith)
