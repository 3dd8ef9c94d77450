use Rattle.drafts.proofs.Taking.{◌then◌}
use Rattle.play_report.proofs.properties.add_property_line.Goals as goal

pub returns : goal.returns
returns g c = (c.add.ensures then c.add-2.ensures then c.add_small.ensures then c.add-3.ensures then c.add_text.ensures then c.add-4.ensures then c.add_printed_text.ensures) then c.add-5.ensures
