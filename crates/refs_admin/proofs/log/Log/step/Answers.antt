use Rattle.refs_admin.proofs.Walks.{state-polite}
use Rattle.refs_admin.proofs.log.Log.step.Goals as goal

pub drive-requires-clause-polite : goal.drive-requires-clause-polite
drive-requires-clause-polite g c = λ t. state-polite c.args.self.now.state _
