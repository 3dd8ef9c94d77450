use Rattle.zarr_tree.proofs.Differing.{differs-law}
use Rattle.zarr_tree.proofs.laws.differs_law.Goals as goal

pub returns : goal.returns
returns c = differs-law
