use Rattle.drafts.proofs.Taking.{◌then◌}
use Rattle.play_report.proofs.checks.add_fault_line.Goals as goal

pub returns : goal.returns
returns g c = (c.add.ensures then c.add-2.ensures then c.add_fault.ensures) then c.add-3.ensures
