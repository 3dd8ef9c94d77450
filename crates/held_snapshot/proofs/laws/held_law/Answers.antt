use Rattle.held_snapshot.proofs.Agreeing.{agreeing}
use Rattle.held_snapshot.proofs.laws.held_law.Goals as goal

pub returns : goal.returns
returns c = agreeing
