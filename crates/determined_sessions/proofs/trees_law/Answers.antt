use Rattle.determined_sessions.proofs.Trees.{plays-law, carried-law}
use Rattle.determined_sessions.proofs.trees_law.Goals as goal

pub returns-clause-plays : goal.returns-clause-plays
returns-clause-plays c = plays-law

pub returns-clause-carried : goal.returns-clause-carried
returns-clause-carried c = carried-law
