use Rattle.zarr_tree.proofs.Normal.{normal-law}
use Rattle.zarr_tree.proofs.laws.normal_law.Goals as goal

pub returns : goal.returns
returns c = normal-law
