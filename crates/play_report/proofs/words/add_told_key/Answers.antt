use Rattle.drafts.proofs.Taking.{◌then◌}
use Rattle.play_report.proofs.words.add_told_key.Goals as goal

pub returns : goal.returns
returns g c = c.add_text.ensures then c.add.ensures then c.add_key.ensures
