use Rattle.live_refs.proofs.Live.{live-law}
use Rattle.live_refs.proofs.live_law.Goals as goal

pub returns : goal.returns
returns c = live-law
