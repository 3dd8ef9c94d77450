use Rattle.zarr_path.proofs.PathLaws.{beneath_law}
use Rattle.zarr_path.proofs.beneath_law.Goals as goal

pub returns : goal.returns
returns c = beneath_law
