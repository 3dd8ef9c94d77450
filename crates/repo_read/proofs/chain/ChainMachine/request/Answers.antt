use Rattle.repo_read.proofs.Walking.{walk-asks}
use Rattle.repo_read.proofs.chain.ChainMachine.request.Goals as goal

pub returns : goal.returns
returns c = walk-asks c.args.self.now.left c.args.self.now.seen c.args.self.now.next c.in-Some.id c.in-Some.is c.requires
