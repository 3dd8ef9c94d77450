use Rattle.zarr_path.proofs.KeyLaws.{key_law}
use Rattle.zarr_path.proofs.key_law.Goals as goal

pub returns : goal.returns
returns c = key_law
