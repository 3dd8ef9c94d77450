use Rattle.drafts.proofs.Taking.{◌then◌}
use Rattle.play_report.proofs.texts.add_head.Goals as goal

pub returns : goal.returns
returns g c = c.add_small.ensures then c.add.ensures then c.add_text.ensures then c.add-2.ensures
