use Rattle.zarr_changes.proofs.EditLaws.{text-law}
use Rattle.zarr_changes.proofs.laws.text_law.Goals as goal

pub returns : goal.returns
returns g c = text-law
