use Rattle.snapshot_file.specs.Nodes.{manifest_at}
use Rattle.held_snapshot.proofs.Walked.{Walked}
use Rattle.held_snapshot.proofs.manifests.manifests_in.Given as goal

abbrev pub invariant-loop-at : goal.invariant-loop-at
invariant-loop-at l = Walked (manifest_at l.vector) l.vector.count l.at
