use Rattle.region_calls.proofs.OwnCalls.{owning-calls}
use Rattle.region_calls.proofs.chunk_laws.owning_calls_law.Goals as goal

pub returns : goal.returns
returns c = owning-calls
