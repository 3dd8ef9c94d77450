use Rattle.manifest_index.proofs.Least.{extents_are_least}
use Rattle.manifest_index.proofs.laws.extents_law.Goals as goal

pub returns : goal.returns
returns c = extents_are_least
