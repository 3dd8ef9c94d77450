use Rattle.std.proofs.Common.{◌≡◌, drop}
use Rattle.std.specs.List.{flat_map}
use Rattle.play_outcome.specs.Ending.{why_left}
use Rattle.top_call.specs.inside.Adding.{all_added}
use Rattle.top_call.proofs.telling.add_all_left.Given as goal

abbrev pub invariant-loop-shown : goal.invariant-loop-shown
invariant-loop-shown l = all_added l.causes (flat_map why_left (drop l.shown-index l.all)) ≡ all_added l.fn.causes (flat_map why_left l.all)
