use Rattle.chunk_gc.proofs.Journals.{collects-exactly}
use Rattle.chunk_gc.proofs.laws.collect_law.Goals as goal

pub returns : goal.returns
returns c = collects-exactly c.snapshot_law.ensures c.manifest_law.ensures c.objects_law.ensures
