use Rattle.check_calls.proofs.Telling.{still-law}
use Rattle.check_calls.proofs.laws.still_law.Goals as goal

pub returns : goal.returns
returns c = still-law c.snapshot_law.ensures
