use Rattle.region_calls.proofs.Setting.{set-law}
use Rattle.region_calls.proofs.chunk_laws.set_law.Goals as goal

pub returns : goal.returns
returns c = set-law c.session_law.ensures
