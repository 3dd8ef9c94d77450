use Rattle.zarr_path.proofs.PathLaws.{parent_law}
use Rattle.zarr_path.proofs.parent_law.Goals as goal

pub returns : goal.returns
returns c = parent_law
