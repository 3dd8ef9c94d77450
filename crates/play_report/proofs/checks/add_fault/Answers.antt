use Rattle.drafts.proofs.Taking.{◌then◌}
use Rattle.play_report.proofs.checks.add_fault.Goals as goal

pub returns : goal.returns
returns g c = c.add_fault_word.ensures then c.add.ensures then c.add_key.ensures
