use Rattle.chunk_gc.proofs.Vanishing.{all-gone}
use Rattle.chunk_gc.proofs.laws.gone_law.Goals as goal

pub returns : goal.returns
returns c = all-gone
