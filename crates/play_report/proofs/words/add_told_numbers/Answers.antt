use Rattle.drafts.proofs.Taking.{◌then◌}
use Rattle.play_report.proofs.words.add_told_numbers.Goals as goal

pub returns : goal.returns
returns g c = c.add_text.ensures then c.add.ensures then c.add_number.ensures then c.add-2.ensures then c.add_number-2.ensures
