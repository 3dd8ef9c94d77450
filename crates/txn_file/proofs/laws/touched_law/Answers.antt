use Rattle.txn_file.proofs.Orders.{both_orders}
use Rattle.txn_file.proofs.laws.touched_law.Goals as goal

pub returns : goal.returns
returns c = both_orders
