use Rattle.drafts.proofs.Taking.{◌then◌}
use Rattle.play_report.proofs.texts.add_fill.Goals as goal

pub returns : goal.returns
returns g c = c.add_small.ensures then c.add.ensures
