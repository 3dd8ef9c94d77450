use Rattle.expiry.proofs.StepsLook.{state-left}
use Rattle.expiry.proofs.look.LookMachine.stop.Goals as goal

pub returns-clause-falls : goal.returns-clause-falls
returns-clause-falls c = state-left c.args.self.now.terms c.args.self.now.key c.args.self.now.state c.requires
