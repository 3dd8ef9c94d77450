use Rattle.drafts.proofs.Taking.{◌then◌}
use Rattle.play_report.proofs.refusals.add_chunk_index.Goals as goal

pub returns : goal.returns
returns g c = c.add.ensures then (rw c.parts.ensures.value at c.add_index.ensures)
