use Rattle.check_calls.proofs.Telling.{sound-law}
use Rattle.check_calls.proofs.laws.sound_law.Goals as goal

pub returns : goal.returns
returns c = sound-law c.snapshot_law.ensures
