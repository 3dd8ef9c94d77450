use Rattle.std.proofs.Common.{refl, ap, ◌∙◌}
use Rattle.drafts.proofs.Taking.{took_as}
use Rattle.top_call.specs.Statuses.{status_of}
use Rattle.top_call.proofs.telling.finish_grown.Goals as goal

pub returns : goal.returns
returns g c =
    let took = rw c.deref.ensures.value at (took_as c.summary_of.ensures c.add_summary.ensures) in
    record { text = _; is = refl; unwritten = c.finish-unwritten.result; wrote = c.finish-unwritten.ensures _ _ _ c.requires took; status_is = c.status.ensures ∙ ap status_of c.causes_of.ensures }
