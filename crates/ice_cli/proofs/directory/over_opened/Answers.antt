use Rattle.std.proofs.Common.{refl}
use Rattle.ice_cli.proofs.Endings.{by-run}
use Rattle.ice_cli.proofs.directory.over_opened.Goals as goal

pub returns : goal.returns
returns g c = by-run _ _ _ _ _ _ c.run_over-ended.ensures c.end.ensures refl
