use Rattle.history_laws.proofs.Found.{reached-found, bases-found, own-found, reached-put, none-missed, nothing-missing}
use Rattle.history_laws.proofs.Leased.{leases-found}
use Rattle.history_laws.proofs.base_found.Goals as goal

pub returns-clause-refs : goal.returns-clause-refs
returns-clause-refs c = reached-found c.initial_law.ensures c.snapshot_law.ensures c.manifest_law.ensures

pub returns-clause-bases : goal.returns-clause-bases
returns-clause-bases c = bases-found c.initial_law.ensures c.snapshot_law.ensures c.manifest_law.ensures

pub returns-clause-leases : goal.returns-clause-leases
returns-clause-leases c = leases-found c.initial_law.ensures c.snapshot_law.ensures c.manifest_law.ensures

pub returns-clause-own : goal.returns-clause-own
returns-clause-own c = own-found c.initial_law.ensures c.snapshot_law.ensures c.manifest_law.ensures

pub returns-clause-was_put : goal.returns-clause-was_put
returns-clause-was_put c = reached-put c.initial_law.ensures

pub returns-clause-none_missing : goal.returns-clause-none_missing
returns-clause-none_missing c = none-missed c.initial_law.ensures c.snapshot_law.ensures c.manifest_law.ensures

pub returns-clause-nothing : goal.returns-clause-nothing
returns-clause-nothing c = nothing-missing
