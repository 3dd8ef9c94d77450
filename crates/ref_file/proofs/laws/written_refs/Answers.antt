use Rattle.ref_file.proofs.Back.{ref_bytes-RefersTo, length-ref_bytes}
use Rattle.ref_file.proofs.laws.written_refs.Goals as goal

pub returns-clause-read : goal.returns-clause-read
returns-clause-read c = ref_bytes-RefersTo

pub returns-clause-long : goal.returns-clause-long
returns-clause-long c = length-ref_bytes
