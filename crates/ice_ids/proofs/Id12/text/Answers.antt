use Rattle.std.proofs.Common.{arith}
use Rattle.ice_ids.proofs.Id12.text.Goals as goal

pub returns-clause-id : goal.returns-clause-id
returns-clause-id c = (omega arith, c.number_of_bytes.ensures.bytes)
