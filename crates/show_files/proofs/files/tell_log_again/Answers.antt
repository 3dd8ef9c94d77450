use Rattle.std.proofs.Common.{subst}
use Rattle.flat_tables.specs.Rows.{Reads}
use Rattle.txn_file.specs.Logs.{txn_of}
use Rattle.show_files.proofs.files.tell_log_again.Goals as goal

pub write-written-requires : goal.write-written-requires
write-written-requires c = c.ordered_law.ensures c.args.file.now c.in-Ok.log (subst (λ r. Reads (λ x. x) r (txn_of c.args.file.now)) c.in-Ok.is c.read.ensures)
