use Rattle.store_api.proofs.Once.{first-law}
use Rattle.store_api.proofs.laws.first_law.Goals as goal

pub returns : goal.returns
returns c = first-law
