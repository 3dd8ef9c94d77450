use Rattle.region_calls.proofs.Sets.{region-set-law}
use Rattle.region_calls.proofs.laws.region_set_law.Goals as goal

pub returns : goal.returns
returns c = region-set-law c.session_law.ensures c.set_law.ensures
