use Rattle.refs_admin.proofs.Walks.{state-head, state-chain}
use Rattle.refs_admin.proofs.log.LogMachine.request.Goals as goal

pub returns-in-Head : goal.returns-in-Head
returns-in-Head c = rw c.request-in-Head.ensures (state-head c.args.self.now.state c.in-Head.walk c.in-Head.is c.requires)

pub returns-in-Chain : goal.returns-in-Chain
returns-in-Chain c = rw c.request-in-Chain.ensures (state-chain c.args.self.now.state c.in-Chain.walk c.in-Chain.is c.requires)
