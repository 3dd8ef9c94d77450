use Rattle.repo_objects.proofs.Again.{manifest_again}
use Rattle.repo_objects.proofs.laws.manifest_law.Goals as goal

pub returns : goal.returns
returns c = manifest_again c.read_law.ensures
