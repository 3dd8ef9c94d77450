use Rattle.history_laws.proofs.Anchors.{anchored-reached}
use Rattle.history_laws.proofs.Ending.{bases-kept, leases-kept, puts-kept}
use Rattle.history_laws.proofs.sessions_kept.Goals as goal

pub returns-clause-bases : goal.returns-clause-bases
returns-clause-bases c = bases-kept c.initial_law.ensures c.snapshot_law.ensures c.manifest_law.ensures

pub returns-clause-leases : goal.returns-clause-leases
returns-clause-leases c = leases-kept c.initial_law.ensures c.snapshot_law.ensures c.manifest_law.ensures

pub returns-clause-puts : goal.returns-clause-puts
returns-clause-puts c = puts-kept c.initial_law.ensures c.snapshot_law.ensures c.manifest_law.ensures

pub returns-clause-anchored : goal.returns-clause-anchored
returns-clause-anchored c = anchored-reached
