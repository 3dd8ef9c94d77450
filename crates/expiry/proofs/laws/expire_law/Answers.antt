use Rattle.expiry.proofs.Lawful.{expires-exactly}
use Rattle.expiry.proofs.laws.expire_law.Goals as goal

pub returns : goal.returns
returns c = expires-exactly c.snapshot_law.ensures
