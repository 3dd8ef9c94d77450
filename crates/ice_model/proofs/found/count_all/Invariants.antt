use Rattle.std.proofs.Common.{◌≡◌}
use Rattle.ice_model.proofs.found.count_all.Given as goal

abbrev pub invariant-loop-conflict : goal.invariant-loop-conflict
invariant-loop-conflict l = l.counts ≡ record l.fn.counts { conflicts = l.counts.conflicts }
