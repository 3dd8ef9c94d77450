use Rattle.snapshot_file.proofs.Sized.{file_sized, file_writable, file_again}
use Rattle.snapshot_file.proofs.WrittenBytes.{written_bytes}
use Rattle.snapshot_file.proofs.laws.read_law.Goals as goal

pub returns : goal.returns
returns c = record { sized = file_sized; writable = file_writable; again = file_again; bytes = written_bytes }
