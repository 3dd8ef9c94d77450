use Rattle.drafts.proofs.Taking.{◌then◌}
use Rattle.play_report.proofs.cases.add_case_line.Goals as goal

pub returns : goal.returns
returns g c = (c.add.ensures then c.add-2.ensures then c.add_case.ensures) then c.add-3.ensures
