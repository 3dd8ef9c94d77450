use Rattle.snapshot_file.proofs.WasRead.{reads_writable}
use Rattle.snapshot_file.proofs.reading.read.Goals as goal

pub returns-clause-writable : goal.returns-clause-writable
returns-clause-writable c = reads_writable c.payload_of.result _ c.payload_of.ensures
