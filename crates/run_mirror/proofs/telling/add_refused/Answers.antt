use Rattle.drafts.proofs.Taking.{◌then◌}
use Rattle.run_mirror.proofs.telling.add_refused.Goals as goal

pub returns : goal.returns
returns g c = c.add.ensures then c.add_refusal.ensures then c.add-2.ensures
