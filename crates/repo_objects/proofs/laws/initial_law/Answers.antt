use Rattle.std.proofs.Common.{refl}
use Rattle.repo_objects.proofs.Again.{initial_again}
use Rattle.repo_objects.proofs.laws.initial_law.Goals as goal

pub returns : goal.returns
returns c = initial_again _ refl c.initial_law.ensures.written c.initial_law.ensures.read
