use Rattle.region_calls.proofs.Getting.{get-law}
use Rattle.region_calls.proofs.chunk_laws.get_law.Goals as goal

pub returns : goal.returns
returns c = get-law c.session_law.ensures
