use Rattle.leases.proofs.Lawful.{lease-law}
use Rattle.leases.proofs.laws.lease_law.Goals as goal

pub returns : goal.returns
returns c = lease-law c.ref_law.ensures
