use Rattle.refs_admin.proofs.BranchHistories.{branch-histories}
use Rattle.refs_admin.proofs.laws.branch_histories_law.Goals as goal

pub returns : goal.returns
returns c = branch-histories (record { snapshot = c.snapshot_law.ensures; reference = c.ref_law.ensures; initial = c.initial_law.ensures })
