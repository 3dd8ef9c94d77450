use Rattle.play_report.proofs.Lines.{headed}
use Rattle.play_report.proofs.texts.add_chunk.Goals as goal

pub returns : goal.returns
returns g c = headed _ _ _ c.add_head.ensures (rw c.as_slice.ensures.value at c.add_bytes.ensures)
