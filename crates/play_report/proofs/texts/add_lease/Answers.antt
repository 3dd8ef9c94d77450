use Rattle.drafts.proofs.Taking.{◌then◌}
use Rattle.play_report.proofs.Lines.{headed}
use Rattle.play_report.proofs.texts.add_lease.Goals as goal

pub returns : goal.returns
returns g c = headed _ _ _ c.add_head.ensures (c.add_id.ensures then c.add.ensures then c.add_left_why.ensures)
