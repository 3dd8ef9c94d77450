use Rattle.store_api.proofs.Standing.{rows-stay}
use Rattle.store_api.proofs.laws.rows_law.Goals as goal

pub returns : goal.returns
returns c = rows-stay
