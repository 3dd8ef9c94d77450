use Rattle.ice_ids.proofs.SetLaws.{has_listed}
use Rattle.ice_ids.proofs.laws.object_sets.Goals as goal

pub returns : goal.returns
returns c = has_listed
