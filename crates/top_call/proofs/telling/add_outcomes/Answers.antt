use Rattle.std.proofs.Common.{◌≡◌, ◌∙◌, List, ◌∷◌, ◌+◌, drop, ap, sym}
use Rattle.std.specs.List.{flat_map}
use Rattle.std.proofs.lemmas.List.{drop_more}
use Rattle.play_outcome.specs.declared.outcome.Outcome.{Outcome}
use Rattle.play_outcome.specs.Ending.{why_ended}
use Rattle.top_call.specs.declared.statuses.Causes.{Causes}
use Rattle.top_call.specs.inside.Adding.{all_added}
use Rattle.top_call.proofs.Tellings.{all_added-append}
use Rattle.top_call.proofs.telling.add_outcomes.Goals as goal

pub loop-outcome-preserved : goal.loop-outcome-preserved
loop-outcome-preserved c =
    let outcomes : List Outcome = c.args.outcomes.now in
    let outcome : Outcome = c.outcome-item.result in
    let rest : List Outcome = drop (c.loop-outcome.outcome-index + 1) outcomes in
    let first : drop c.loop-outcome.outcome-index outcomes ≡ outcome ∷ rest = drop_more outcomes c.loop-outcome.outcome-index outcome c.loop-outcome-test.true ∙ ap (λ (o : Outcome). o ∷ rest) (sym c.outcome-item.is) in
    ap (λ (x : Causes). all_added x (flat_map why_ended rest)) c.add_task.ensures
    ∙ (sym (all_added-append (why_ended outcome) (flat_map why_ended rest) c.loop-outcome.causes)
    ∙ (ap (λ (os : List Outcome). all_added c.loop-outcome.causes (flat_map why_ended os)) (sym first) ∙ c.loop-outcome.invariant))
