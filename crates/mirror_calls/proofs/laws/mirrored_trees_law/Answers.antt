use Rattle.mirror_calls.proofs.Same.{mirrors-trees}
use Rattle.mirror_calls.proofs.laws.mirrored_trees_law.Goals as goal

pub returns : goal.returns
returns c = mirrors-trees c.snapshot_law.ensures c.objects_law.ensures c.ref_law.ensures
