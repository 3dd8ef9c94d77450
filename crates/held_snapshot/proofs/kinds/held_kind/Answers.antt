use Rattle.held_snapshot.proofs.Parts.{kind_array, kind_group}
use Rattle.held_snapshot.proofs.kinds.held_kind.Goals as goal
use Rattle.held_snapshot.proofs.kinds.held_kind.Goals.{then-node_type-eq1, else-node_type-eq1}

pub invariant_of-result : goal.invariant_of-result
invariant_of-result c = elim c.if-node_type-eq1.branch [
  | then-node_type-eq1 w ↦ rw w.array-is (kind_array c.args.node_type c.args.table w.if-node_type-eq1.true c.requires).ok
  | else-node_type-eq1 w ↦ rw w.array-is tt
]

pub returns : goal.returns
returns c = elim c.if-node_type-eq1.branch [
  | then-node_type-eq1 w ↦ rw w.array-is (kind_array c.args.node_type c.args.table w.if-node_type-eq1.true c.requires).is
  | else-node_type-eq1 w ↦ rw w.array-is (kind_group c.args.node_type c.args.table w.if-node_type-eq1.false c.requires)
]
