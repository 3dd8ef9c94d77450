use Rattle.zarr_tree.proofs.Extend.{change-law}
use Rattle.zarr_tree.proofs.laws.change_law.Goals as goal

pub returns : goal.returns
returns c = change-law
