use Rattle.determined_changes.proofs.Same.{nodes-law, same-law}
use Rattle.determined_changes.proofs.Alike.{alike-law, topmost-law}
use Rattle.determined_changes.proofs.determined_law.Goals as goal

pub returns-clause-nodes : goal.returns-clause-nodes
returns-clause-nodes c = nodes-law

pub returns-clause-same : goal.returns-clause-same
returns-clause-same c = same-law

pub returns-clause-alike : goal.returns-clause-alike
returns-clause-alike c = alike-law

pub returns-clause-topmost : goal.returns-clause-topmost
returns-clause-topmost c = topmost-law
