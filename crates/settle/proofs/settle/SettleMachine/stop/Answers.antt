use Rattle.settle.proofs.Steps.{state-left}
use Rattle.settle.proofs.settle.SettleMachine.stop.Goals as goal

pub returns-clause-falls : goal.returns-clause-falls
returns-clause-falls c = state-left c.args.self.now.doubt c.args.self.now.state c.requires
