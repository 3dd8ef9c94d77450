use Rattle.zarr_tree.proofs.Normal.{empty-law}
use Rattle.zarr_tree.proofs.laws.empty_law.Goals as goal

pub returns : goal.returns
returns c = empty-law
