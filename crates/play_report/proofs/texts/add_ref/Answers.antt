use Rattle.drafts.proofs.Taking.{◌then◌}
use Rattle.play_report.proofs.texts.add_ref.Goals as goal

pub returns : goal.returns
returns g c = c.add_name.ensures then c.add.ensures then c.add_id.ensures
