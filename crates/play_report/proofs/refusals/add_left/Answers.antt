use Rattle.drafts.proofs.Taking.{◌then◌}
use Rattle.play_report.proofs.refusals.add_left.Goals as goal

pub returns : goal.returns
returns g c = c.add.ensures then c.add_id.ensures then c.add_conflicts.ensures
