use Rattle.manifest_index.proofs.Least.{extents_sized}
use Rattle.manifest_index.proofs.laws.sized_extents_law.Goals as goal

pub returns : goal.returns
returns c = extents_sized
