use Rattle.store_api.proofs.Standing.{standing}
use Rattle.store_api.proofs.laws.trees_law.Goals as goal

pub returns : goal.returns
returns c = standing
