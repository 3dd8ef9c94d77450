use Rattle.zarr_tree.proofs.Commute.{commute-law}
use Rattle.zarr_tree.proofs.laws.commute_law.Goals as goal

pub returns : goal.returns
returns c = commute-law
