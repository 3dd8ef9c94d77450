use Rattle.std.proofs.Common.{◌≡◌, drop}
use Rattle.std.specs.List.{flat_map}
use Rattle.play_outcome.specs.Ending.{why_ended}
use Rattle.top_call.specs.inside.Adding.{all_added}
use Rattle.top_call.proofs.telling.add_outcomes.Given as goal

abbrev pub invariant-loop-outcome : goal.invariant-loop-outcome
invariant-loop-outcome l = all_added l.causes (flat_map why_ended (drop l.outcome-index l.outcomes)) ≡ all_added l.fn.causes (flat_map why_ended l.outcomes)
