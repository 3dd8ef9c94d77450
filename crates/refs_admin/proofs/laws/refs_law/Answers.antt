use Rattle.refs_admin.proofs.Lawful.{refs-law}
use Rattle.refs_admin.proofs.laws.refs_law.Goals as goal

pub returns : goal.returns
returns c = refs-law (record { snapshot = c.snapshot_law.ensures; reference = c.ref_law.ensures; initial = c.initial_law.ensures })
