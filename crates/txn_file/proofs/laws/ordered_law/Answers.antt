use Rattle.txn_file.proofs.Ordered.{txn_ordered}
use Rattle.txn_file.proofs.laws.ordered_law.Goals as goal

pub returns : goal.returns
returns c = txn_ordered
