use Rattle.store_api.proofs.Drives.{asked-none}
use Rattle.store_api.proofs.driving.ask.Goals as goal

pub returns-in-Err-clause-called : goal.returns-in-Err-clause-called
returns-in-Err-clause-called g c = asked-none _ c.requires.live _
