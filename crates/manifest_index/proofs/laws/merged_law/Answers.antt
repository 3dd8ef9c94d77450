use Rattle.manifest_index.proofs.MergedLaws.{merged_is_law}
use Rattle.manifest_index.proofs.laws.merged_law.Goals as goal

pub returns : goal.returns
returns c = merged_is_law
