use Rattle.history_laws.proofs.Example.{took-one}
use Rattle.history_laws.proofs.took_one.Goals as goal

pub returns : goal.returns
returns c = took-one c.initial_law.ensures c.ref_law.ensures
