use Rattle.mirror.proofs.Fair.{fair-mirror}
use Rattle.mirror.proofs.laws.fair_law.Goals as goal

pub returns : goal.returns
returns c = fair-mirror
