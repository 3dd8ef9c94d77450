use Rattle.std.proofs.Common.{arith}
use Rattle.flat_tables.specs.declared.header.Kind.TheVariants as kinds
use Rattle.flat_tables.specs.Layout.{payload}
use Rattle.flat_tables.proofs.Files.{length_file}
use Rattle.txn_file.specs.Layout.{log_block, log_file}
use Rattle.txn_file.proofs.Again.{txn_again}
use Rattle.txn_file.proofs.laws.round_trip_law.Goals as goal

pub returns : goal.returns
unfolding log_file
returns c = λ log is order fits. txn_again log is order (omega (arith, length_file kinds.Log (payload (log_block log))))
