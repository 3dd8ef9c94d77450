use Rattle.std.proofs.Common.{refl, ap, ◌∙◌}
use Rattle.top_call.specs.Statuses.{status_of}
use Rattle.top_call.proofs.telling.finish.Goals as goal

pub returns : goal.returns
returns g c =
    let took = rw c.deref.ensures.value at c.add_report.ensures in
    record { text = _; is = refl; unwritten = c.finish-unwritten.result; wrote = c.finish-unwritten.ensures _ _ _ c.requires took; status_is = c.status.ensures ∙ ap status_of c.causes_of.ensures }
