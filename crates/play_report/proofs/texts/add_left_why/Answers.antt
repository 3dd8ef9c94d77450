use Rattle.drafts.proofs.Taking.{took_none}
use Rattle.play_report.proofs.texts.add_left_why.Goals as goal

pub returns-in-None : goal.returns-in-None
returns-in-None g c = rw c.in-None.is (took_none _ _)
