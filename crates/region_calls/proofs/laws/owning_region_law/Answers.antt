use Rattle.region_calls.proofs.Owning.{owning-region}
use Rattle.region_calls.proofs.laws.owning_region_law.Goals as goal

pub returns : goal.returns
returns c = owning-region c.owning_calls_law.ensures
