use Rattle.drafts.proofs.Taking.{◌then◌}
use Rattle.play_report.proofs.reporting.add_ref_line.Goals as goal

pub returns : goal.returns
returns g c = (c.add_ref_kind.ensures then c.add.ensures then c.add_ref.ensures) then c.add-2.ensures
