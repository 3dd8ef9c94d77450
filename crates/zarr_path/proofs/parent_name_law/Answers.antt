use Rattle.zarr_path.proofs.ParentNames.{parent_name_law}
use Rattle.zarr_path.proofs.parent_name_law.Goals as goal

pub returns : goal.returns
returns c = parent_name_law
