use Rattle.manifest_file.proofs.Ordered.{manifest_ordered}
use Rattle.manifest_file.proofs.Again.{written_again}
use Rattle.manifest_file.proofs.Sized.{manifest_sized}
use Rattle.manifest_file.proofs.WrittenBytes.{written_bytes}
use Rattle.manifest_file.proofs.laws.read_law.Goals as goal

pub returns : goal.returns
returns c = record { sized = manifest_sized; writable = manifest_ordered; again = written_again; bytes = written_bytes }
