use Rattle.drafts.proofs.Taking.{◌then◌}
use Rattle.play_report.proofs.refusals.add_numbers.Goals as goal

pub returns : goal.returns
returns g c = c.add_small.ensures then c.add_more_numbers.ensures
