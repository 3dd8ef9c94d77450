use Rattle.repo_check.proofs.Journals.{checks-exactly}
use Rattle.repo_check.proofs.laws.check_law.Goals as goal

pub returns : goal.returns
returns c = checks-exactly
