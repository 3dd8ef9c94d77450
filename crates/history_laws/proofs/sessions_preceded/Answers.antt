use Rattle.history_laws.proofs.Given.{first-preceded, begun-late}
use Rattle.history_laws.proofs.sessions_preceded.Goals as goal

pub returns-clause-first : goal.returns-clause-first
returns-clause-first c = first-preceded

pub returns-clause-begun : goal.returns-clause-begun
returns-clause-begun c = begun-late c.initial_law.ensures c.snapshot_law.ensures c.manifest_law.ensures
