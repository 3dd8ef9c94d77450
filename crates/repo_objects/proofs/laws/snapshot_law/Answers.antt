use Rattle.repo_objects.proofs.Again.{snapshot_again}
use Rattle.repo_objects.proofs.laws.snapshot_law.Goals as goal

pub returns : goal.returns
returns c = snapshot_again c.read_law.ensures
