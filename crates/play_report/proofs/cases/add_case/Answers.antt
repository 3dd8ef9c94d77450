use Rattle.drafts.proofs.Taking.{◌then◌}
use Rattle.play_report.proofs.cases.add_case.Goals as goal

pub returns : goal.returns
returns g c = c.add_small.ensures then c.add.ensures then c.add_ref_kind.ensures then c.add-2.ensures then c.add_name.ensures then c.add-3.ensures then c.add_what.ensures
