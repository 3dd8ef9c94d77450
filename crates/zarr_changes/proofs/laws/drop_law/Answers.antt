use Rattle.zarr_changes.proofs.DropLaws.{drop-law}
use Rattle.zarr_changes.proofs.laws.drop_law.Goals as goal

pub returns : goal.returns
returns g c = drop-law
