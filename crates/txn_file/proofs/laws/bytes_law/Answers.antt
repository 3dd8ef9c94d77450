use Rattle.txn_file.proofs.WrittenBytes.{written_bytes}
use Rattle.txn_file.proofs.laws.bytes_law.Goals as goal

pub returns : goal.returns
returns c = written_bytes
