use Rattle.refs_admin.proofs.Stays.{tags-stay, main-stays}
use Rattle.refs_admin.proofs.laws.stays_law.Goals as goal

pub returns-clause-tags : goal.returns-clause-tags
returns-clause-tags c = tags-stay

pub returns-clause-main : goal.returns-clause-main
returns-clause-main c = main-stays
