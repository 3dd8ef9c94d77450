use Rattle.drafts.proofs.Taking.{◌then◌}
use Rattle.play_report.proofs.texts.add_refused_at.Goals as goal

pub returns : goal.returns
returns g c = c.add.ensures then c.add_small.ensures then c.add-2.ensures then c.add_refusal.ensures
