use Rattle.changed_snapshot.proofs.NodesHold.{nodes-law}
use Rattle.changed_snapshot.proofs.laws.nodes_law.Goals as goal

pub returns : goal.returns
returns c = nodes-law
