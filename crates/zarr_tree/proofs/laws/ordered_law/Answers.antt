use Rattle.zarr_tree.proofs.Listing.{ordered-law}
use Rattle.zarr_tree.proofs.laws.ordered_law.Goals as goal

pub returns : goal.returns
returns g c = ordered-law
