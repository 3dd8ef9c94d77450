use Rattle.commit_path.proofs.Lawful.{answers-law}
use Rattle.commit_path.proofs.laws.answers_law.Goals as goal

pub returns : goal.returns
returns c = answers-law
