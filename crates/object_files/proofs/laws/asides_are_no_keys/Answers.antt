use Rattle.object_files.proofs.Apart.{asides_differ}
use Rattle.object_files.proofs.laws.asides_are_no_keys.Goals as goal

pub returns : goal.returns
returns c = asides_differ
