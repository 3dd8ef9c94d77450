use Rattle.expiry.proofs.StepsLook.{state-below}
use Rattle.expiry.proofs.look.LookMachine.request.Goals as goal

pub returns-in-Below : goal.returns-in-Below
returns-in-Below c = state-below c.args.self.now.terms c.args.self.now.key c.args.self.now.state c.in-Below.walk c.in-Below.is c.requires
