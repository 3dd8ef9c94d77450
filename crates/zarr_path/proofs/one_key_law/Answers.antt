use Rattle.zarr_path.proofs.KeyLaws.{one_key}
use Rattle.zarr_path.proofs.one_key_law.Goals as goal

pub returns : goal.returns
returns c = one_key
