use Rattle.zarr_tree.proofs.ViewLaws.{array_has_grid}
use Rattle.zarr_tree.proofs.laws.grid_law.Goals as goal

pub returns : goal.returns
returns c = array_has_grid
