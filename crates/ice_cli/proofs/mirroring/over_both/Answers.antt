use Rattle.std.proofs.Common.{◌∙◌}
use Rattle.ice_cli.proofs.mirroring.over_both.Goals as goal

pub returns : goal.returns
returns g c = record { old = _; new = _; before = _; after = _; ended = _; did = c.run_mirror-ended.ensures; code_is = c.end.ensures ∙ c.status_of.ensures }
