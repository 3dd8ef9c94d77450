use Rattle.two_stores.proofs.Drives.{asked-none}
use Rattle.two_stores.proofs.driving.ask_pair.Goals as goal

pub returns-clause-called : goal.returns-clause-called
returns-clause-called g c = asked-none _ c.requires.live _
