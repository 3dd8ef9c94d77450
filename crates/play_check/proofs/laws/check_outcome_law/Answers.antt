use Rattle.play_check.proofs.Lasting.{outcome-kept}
use Rattle.play_check.proofs.laws.check_outcome_law.Goals as goal

pub returns : goal.returns
returns c = outcome-kept c.check_law.ensures c.failure_law.ensures
