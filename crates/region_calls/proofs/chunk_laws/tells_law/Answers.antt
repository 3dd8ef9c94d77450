use Rattle.region_calls.proofs.Lasting.{tells-law}
use Rattle.region_calls.proofs.chunk_laws.tells_law.Goals as goal

pub returns : goal.returns
returns c = tells-law
