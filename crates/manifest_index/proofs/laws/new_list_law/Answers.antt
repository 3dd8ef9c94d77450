use Rattle.manifest_index.proofs.MergedLaws.{new_list_is_law}
use Rattle.manifest_index.proofs.laws.new_list_law.Goals as goal

pub returns : goal.returns
returns c = new_list_is_law
