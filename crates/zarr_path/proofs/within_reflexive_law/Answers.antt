use Rattle.zarr_path.proofs.PathLaws.{within-refl}
use Rattle.zarr_path.proofs.within_reflexive_law.Goals as goal

pub returns : goal.returns
returns c = within-refl
