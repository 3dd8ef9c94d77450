use Rattle.drafts.proofs.Taking.{◌then◌}
use Rattle.play_report.proofs.words.add_ref_object.Goals as goal

pub returns : goal.returns
returns g c = c.add_text.ensures then c.add_name.ensures then c.add_text-2.ensures
