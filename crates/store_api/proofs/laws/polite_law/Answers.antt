use Rattle.store_api.proofs.Standing.{IsPolite-append}
use Rattle.store_api.proofs.laws.polite_law.Goals as goal

pub returns : goal.returns
returns c = IsPolite-append
