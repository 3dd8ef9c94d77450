use Rattle.drafts.proofs.Taking.{◌then◌}
use Rattle.play_report.proofs.texts.add_unsettled.Goals as goal

pub returns : goal.returns
returns g c = c.add.ensures then c.add_refusal.ensures
