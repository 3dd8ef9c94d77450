use Rattle.region_calls.proofs.Boxes.{region-law}
use Rattle.region_calls.proofs.laws.region_law.Goals as goal

pub returns : goal.returns
returns c = region-law c.box_law.ensures
