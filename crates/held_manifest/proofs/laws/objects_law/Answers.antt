use Rattle.held_manifest.proofs.Named.{objects_are}
use Rattle.held_manifest.proofs.laws.objects_law.Goals as goal

pub returns : goal.returns
returns c = objects_are
