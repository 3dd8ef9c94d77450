use Rattle.store_api.proofs.Standing.{puts-stay}
use Rattle.store_api.proofs.laws.puts_law.Goals as goal

pub returns : goal.returns
returns c = puts-stay
