use Rattle.rebase.proofs.Rebases.{state-polite}
use Rattle.rebase.proofs.machine.Rebase.step.Goals as goal

pub drive-requires-clause-polite : goal.drive-requires-clause-polite
drive-requires-clause-polite g c = λ t. state-polite c.args.self.now.policy c.args.self.now.session c.args.self.now.state _
