use Rattle.object_files.proofs.Apart.{names_differ}
use Rattle.object_files.proofs.laws.names_are_told_apart.Goals as goal

pub returns : goal.returns
returns c = names_differ
