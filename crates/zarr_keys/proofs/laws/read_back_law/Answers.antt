use Rattle.zarr_keys.proofs.ReadBack.{read-back}
use Rattle.zarr_keys.proofs.laws.read_back_law.Goals as goal

pub returns : goal.returns
returns c = read-back
