use Rattle.history_laws.proofs.Given.{client-collects}
use Rattle.history_laws.proofs.client_collects.Goals as goal

pub returns : goal.returns
returns c = client-collects
