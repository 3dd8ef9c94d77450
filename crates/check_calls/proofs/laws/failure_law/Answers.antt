use Rattle.check_calls.proofs.Failing.{failure-law}
use Rattle.check_calls.proofs.laws.failure_law.Goals as goal

pub returns : goal.returns
returns c = failure-law
