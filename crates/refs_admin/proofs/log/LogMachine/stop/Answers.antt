use Rattle.refs_admin.proofs.Walks.{state-left}
use Rattle.refs_admin.proofs.log.LogMachine.stop.Goals as goal

pub returns-clause-falls : goal.returns-clause-falls
returns-clause-falls c = state-left c.args.self.now.state c.requires
