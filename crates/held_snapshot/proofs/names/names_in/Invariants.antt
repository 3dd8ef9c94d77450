use Rattle.snapshot_file.specs.Nodes.{name_at}
use Rattle.held_snapshot.proofs.Walked.{Walked}
use Rattle.held_snapshot.proofs.names.names_in.Given as goal

abbrev pub invariant-loop-at : goal.invariant-loop-at
invariant-loop-at l = Walked (name_at l.vector) l.vector.count l.at
