use Rattle.std.proofs.Common.{◌∙◌, ap, sym}
use Rattle.std.specs.List.{flat_map}
use Rattle.play_outcome.specs.Ending.{end_why, why_left}
use Rattle.top_call.specs.declared.statuses.Causes.{Causes}
use Rattle.top_call.specs.inside.Adding.{all_added}
use Rattle.top_call.proofs.Tellings.{all_added-append}
use Rattle.top_call.proofs.telling.add_task.Goals as goal

pub returns : goal.returns
returns c =
    let outcome = c.args.outcome.now in
    let first = rw c.as_slice.ensures at c.add_all_left.ensures in
    c.add_end.ensures ∙ (ap (λ (x : Causes). all_added x (end_why outcome.end)) first ∙ sym (all_added-append (flat_map why_left outcome.shown) (end_why outcome.end) c.args.causes.now))
