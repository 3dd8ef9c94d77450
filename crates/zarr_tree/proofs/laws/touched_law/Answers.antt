use Rattle.zarr_tree.proofs.Listing.{touched-law}
use Rattle.zarr_tree.proofs.laws.touched_law.Goals as goal

pub returns : goal.returns
returns g c = touched-law
