use Rattle.play_report.proofs.Lines.{headed}
use Rattle.play_report.proofs.texts.add_box.Goals as goal

pub returns : goal.returns
returns g c = headed _ _ _ c.add_head.ensures c.add_cells.ensures
