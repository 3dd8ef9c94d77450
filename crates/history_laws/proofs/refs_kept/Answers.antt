use Rattle.history_laws.proofs.Ending.{refs-kept, dooms-stay}
use Rattle.history_laws.proofs.refs_kept.Goals as goal

pub returns-clause-refs : goal.returns-clause-refs
returns-clause-refs c = refs-kept c.initial_law.ensures c.snapshot_law.ensures c.manifest_law.ensures

pub returns-clause-settled : goal.returns-clause-settled
returns-clause-settled c = dooms-stay c.initial_law.ensures c.snapshot_law.ensures c.manifest_law.ensures
