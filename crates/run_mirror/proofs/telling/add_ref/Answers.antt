use Rattle.drafts.proofs.Taking.{◌then◌}
use Rattle.run_mirror.proofs.telling.add_ref.Goals as goal

pub returns : goal.returns
returns g c = c.add_kind.ensures then c.add_name.ensures then c.add.ensures then c.add_id.ensures then c.add_put.ensures
