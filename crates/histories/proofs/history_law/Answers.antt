use Rattle.histories.proofs.Linked.{history-law}
use Rattle.histories.proofs.history_law.Goals as goal

pub returns : goal.returns
returns c = history-law
