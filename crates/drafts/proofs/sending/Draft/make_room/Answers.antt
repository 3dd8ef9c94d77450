use Rattle.drafts.proofs.Taking.{took_none}
use Rattle.drafts.proofs.sending.Draft.make_room.Goals as goal

pub returns-then-self-len-clause-took : goal.returns-then-self-len-clause-took
returns-then-self-len-clause-took g c = took_none _ _
