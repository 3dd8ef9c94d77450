use Rattle.std.proofs.Common.{◌∙◌, ap}
use Rattle.std.specs.List.{flat_map}
use Rattle.top_call.specs.declared.statuses.Causes.{Causes}
use Rattle.play_outcome.specs.Ending.{why_ended}
use Rattle.top_call.specs.Telling.{why_of}
use Rattle.top_call.specs.inside.Adding.{all_added}
use Rattle.top_call.proofs.Tellings.{all-causes}
use Rattle.top_call.proofs.telling.causes_of.Goals as goal

pub returns : goal.returns
returns c =
    let outcomes = c.args.played.now.outcomes.items in
    let first = rw c.deref.ensures.value at c.add_outcomes.ensures ∙ ap (λ (x : Causes). all_added x (flat_map why_ended outcomes)) c.add_result.ensures in
    c.add_refs.ensures ∙ (ap (λ (x : Causes). all_added x (why_of c.args.played.now.refs)) first ∙ all-causes c.args.unwritten c.args.played.now.opening outcomes c.args.played.now.refs)
