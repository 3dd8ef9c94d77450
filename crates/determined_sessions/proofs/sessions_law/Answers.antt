use Rattle.determined_sessions.proofs.Sessions.{lines-law, sessions-law}
use Rattle.determined_sessions.proofs.Firsts.{first-law}
use Rattle.determined_sessions.proofs.Solved.{solved-law}
use Rattle.determined_sessions.proofs.sessions_law.Goals as goal

pub returns-clause-lines : goal.returns-clause-lines
returns-clause-lines c = lines-law

pub returns-clause-first : goal.returns-clause-first
returns-clause-first c = first-law

pub returns-clause-came : goal.returns-clause-came
returns-clause-came c = sessions-law

pub returns-clause-solved : goal.returns-clause-solved
returns-clause-solved c = solved-law
