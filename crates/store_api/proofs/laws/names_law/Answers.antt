use Rattle.store_api.proofs.Naming.{names-law}
use Rattle.store_api.proofs.laws.names_law.Goals as goal

pub returns : goal.returns
returns c = names-law
