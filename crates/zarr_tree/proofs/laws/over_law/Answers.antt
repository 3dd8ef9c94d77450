use Rattle.zarr_tree.proofs.Over.{over-law}
use Rattle.zarr_tree.proofs.laws.over_law.Goals as goal

pub returns : goal.returns
returns c = over-law
