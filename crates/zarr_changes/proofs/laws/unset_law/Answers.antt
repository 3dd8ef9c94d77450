use Rattle.zarr_changes.proofs.ChunkLaws.{unset-law}
use Rattle.zarr_changes.proofs.laws.unset_law.Goals as goal

pub returns : goal.returns
returns g c = unset-law
