use Rattle.zarr_changes.proofs.ChunkLaws.{taken-law}
use Rattle.zarr_changes.proofs.laws.taken_law.Goals as goal

pub returns : goal.returns
returns g c = taken-law
