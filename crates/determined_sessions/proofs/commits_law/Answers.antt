use Rattle.determined_sessions.proofs.Commits.{commits-law}
use Rattle.determined_sessions.proofs.commits_law.Goals as goal

pub returns : goal.returns
returns c = commits-law
