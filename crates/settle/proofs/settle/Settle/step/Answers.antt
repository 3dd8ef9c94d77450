use Rattle.settle.proofs.Steps.{state-polite}
use Rattle.settle.proofs.settle.Settle.step.Goals as goal

pub drive-requires-clause-polite : goal.drive-requires-clause-polite
drive-requires-clause-polite g c = λ t. state-polite c.args.self.now.doubt c.args.self.now.state _
