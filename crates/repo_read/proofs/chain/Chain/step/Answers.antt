use Rattle.repo_read.proofs.Walking.{walk-polite}
use Rattle.repo_read.proofs.chain.Chain.step.Goals as goal

pub drive-requires-clause-polite : goal.drive-requires-clause-polite
drive-requires-clause-polite g c = λ t. walk-polite c.args.self.now.left c.args.self.now.seen c.args.self.now.next _
