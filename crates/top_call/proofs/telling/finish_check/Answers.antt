use Rattle.std.proofs.Common.{refl, ap, ◌∙◌}
use Rattle.top_call.specs.Statuses.{status_of}
use Rattle.top_call.proofs.telling.finish_check.Goals as goal

pub returns : goal.returns
returns g c = record { text = _; is = refl; unwritten = c.finish-unwritten.result; wrote = c.finish-unwritten.ensures _ _ _ c.requires c.add_outcome.ensures; status_is = c.status.ensures ∙ ap status_of c.causes_of_check.ensures }
