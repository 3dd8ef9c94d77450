use Rattle.ice_cli.proofs.Endings.{did-words}
use Rattle.ice_cli.proofs.running.run_over.Goals as goal

pub returns : goal.returns
returns g c = did-words _ _ _ _ _ c.run.ensures.usage c.run.ensures.exact c.run.ensures.ours c.run.ensures.spares_ours
