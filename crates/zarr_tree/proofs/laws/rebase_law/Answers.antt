use Rattle.zarr_tree.proofs.Rebase.{rebase-law}
use Rattle.zarr_tree.proofs.laws.rebase_law.Goals as goal

pub returns : goal.returns
returns c = rebase-law
