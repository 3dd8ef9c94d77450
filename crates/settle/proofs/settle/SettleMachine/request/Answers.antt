use Rattle.settle.proofs.Steps.{state-chain}
use Rattle.settle.proofs.settle.SettleMachine.request.Goals as goal

pub returns-in-Chain : goal.returns-in-Chain
returns-in-Chain c = rw c.request.ensures (state-chain c.args.self.now.doubt c.args.self.now.state c.in-Chain.way c.in-Chain.is c.requires)
