use Rattle.mirror_calls.proofs.Leading.{mirrors-exactly}
use Rattle.mirror_calls.proofs.laws.mirror_law.Goals as goal

pub returns : goal.returns
returns c = mirrors-exactly c.snapshot_law.ensures c.objects_law.ensures c.ref_law.ensures
