use Rattle.changed_snapshot.proofs.Proper.{fine-law}
use Rattle.changed_snapshot.proofs.laws.fine_law.Goals as goal

pub returns : goal.returns
returns c = fine-law
