use Rattle.std.proofs.Common.{◌≡◌, vec_len}
use Rattle.zarr_changes.specs.inside.Placing.{all_back}
use Rattle.zarr_changes.proofs.placing.put_all_back.Given as goal

-- what is left to be put back leads to the same entries
abbrev pub invariant-loop-last : goal.invariant-loop-last
invariant-loop-last l = all_back l.before.items l.chunks.entries ≡ all_back l.fn.before.items l.fn.chunks.entries

abbrev pub decreases-loop-last : goal.decreases-loop-last
decreases-loop-last l = vec_len l.before
