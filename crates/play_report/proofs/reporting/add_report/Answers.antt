use Rattle.drafts.proofs.Taking.{◌then◌}
use Rattle.play_report.specs.Report.{report_of}
use Rattle.play_report.proofs.reporting.add_report.Goals as goal

pub returns : goal.returns
unfolding report_of
returns g c = c.add_played.ensures then c.add_refs.ensures
