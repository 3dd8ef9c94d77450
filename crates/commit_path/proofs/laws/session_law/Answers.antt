use Rattle.commit_path.proofs.Lawful.{session-law}
use Rattle.commit_path.proofs.laws.session_law.Goals as goal

pub returns : goal.returns
returns c = session-law
