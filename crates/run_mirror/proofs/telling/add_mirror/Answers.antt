use Rattle.drafts.proofs.Taking.{◌then◌}
use Rattle.run_mirror.proofs.telling.add_mirror.Goals as goal

pub returns : goal.returns
returns g c = (rw c.as_slice.ensures at c.add_refs.ensures) then c.add_result.ensures
