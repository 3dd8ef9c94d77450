use Rattle.changed_snapshot.proofs.TreeHolds.{tree-law}
use Rattle.changed_snapshot.proofs.laws.tree_law.Goals as goal

pub returns : goal.returns
returns c = tree-law
