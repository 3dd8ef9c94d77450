use Rattle.drafts.proofs.Taking.{◌then◌}
use Rattle.run_mirror.proofs.telling.add_counts.Goals as goal

pub returns : goal.returns
returns g c = c.add.ensures then c.add_number.ensures then c.add-2.ensures then c.add_number-2.ensures then c.add-3.ensures then c.add_number-3.ensures then c.add-4.ensures then c.add_number-4.ensures then c.add-5.ensures
