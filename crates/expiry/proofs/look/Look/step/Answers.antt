use Rattle.expiry.proofs.StepsLook.{state-polite}
use Rattle.expiry.proofs.look.Look.step.Goals as goal

pub drive-requires-clause-polite : goal.drive-requires-clause-polite
drive-requires-clause-polite g c = λ t. state-polite c.args.self.now.terms c.args.self.now.key c.args.self.now.state _
