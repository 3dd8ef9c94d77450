use Rattle.refs_admin.proofs.TagStates.{tag-states}
use Rattle.refs_admin.proofs.laws.tag_states_law.Goals as goal

pub returns : goal.returns
returns c = tag-states
