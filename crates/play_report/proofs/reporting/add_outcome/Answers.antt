use Rattle.drafts.proofs.Taking.{◌then◌}
use Rattle.play_report.proofs.reporting.add_outcome.Goals as goal

pub returns : goal.returns
returns g c = (rw c.as_slice.ensures at c.add_all_shown.ensures) then (rw c.as_slice-2.ensures at c.add_all_left.ensures) then c.add_done_lines.ensures then c.add_end_line.ensures
