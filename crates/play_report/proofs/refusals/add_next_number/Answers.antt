use Rattle.drafts.proofs.Taking.{◌then◌}
use Rattle.play_report.proofs.refusals.add_next_number.Goals as goal

pub returns : goal.returns
returns g c = c.add.ensures then c.add_small.ensures
