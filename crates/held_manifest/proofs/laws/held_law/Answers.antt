use Rattle.held_manifest.proofs.Agreeing.{agreeing}
use Rattle.held_manifest.proofs.laws.held_law.Goals as goal

pub returns : goal.returns
returns c = agreeing
