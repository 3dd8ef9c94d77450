use Rattle.manifest_file.proofs.Ordered.{manifest_ordered}
use Rattle.manifest_file.proofs.laws.ordered_law.Goals as goal

pub returns : goal.returns
returns c = manifest_ordered
