use Rattle.zarr_tree.proofs.Normal.{none-law}
use Rattle.zarr_tree.proofs.laws.none_law.Goals as goal

pub returns : goal.returns
returns c = none-law
