use Rattle.manifest_file.proofs.Again.{written_again}
use Rattle.manifest_file.proofs.laws.round_trip_law.Goals as goal

pub returns : goal.returns
returns c = written_again
