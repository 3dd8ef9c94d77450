use Rattle.zarr_changes.proofs.ChunkLaws.{set-law}
use Rattle.zarr_changes.proofs.laws.set_law.Goals as goal

pub returns : goal.returns
returns g c = set-law
