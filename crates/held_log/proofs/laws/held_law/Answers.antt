use Rattle.held_log.proofs.Agreeing.{agreeing}
use Rattle.held_log.proofs.laws.held_law.Goals as goal

pub returns : goal.returns
returns c = agreeing
