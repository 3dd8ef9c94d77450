use Rattle.history_laws.proofs.Given.{commits-child}
use Rattle.history_laws.proofs.commits_child.Goals as goal

pub returns : goal.returns
returns c = commits-child
