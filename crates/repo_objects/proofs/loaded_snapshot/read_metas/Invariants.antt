use Rattle.repo_objects.proofs.Metas.{SoFar}
use Rattle.repo_objects.proofs.loaded_snapshot.read_metas.Given as goal

abbrev pub invariant-loop-at : goal.invariant-loop-at
invariant-loop-at l = SoFar l.rows l.at l.metas.items
