use Rattle.repo_read.proofs.Walking.{walk-left}
use Rattle.repo_read.proofs.chain.ChainMachine.stop.Goals as goal

pub returns-clause-falls : goal.returns-clause-falls
returns-clause-falls c = walk-left c.args.self.now.left c.args.self.now.seen c.args.self.now.next c.requires
