use Rattle.std.proofs.Common.{◌≡◌}
use Rattle.zarr_changes.specs.inside.Placing.{rows_placed, all_back}
use Rattle.zarr_changes.proofs.placing.enter_each.Given as goal

-- the chunks that are left lead to the same entries, and what was noted leads back
abbrev pub invariant-loop-item : goal.invariant-loop-item
invariant-loop-item l =
    (rows_placed l.chunks.entries l.item-iterator.rest.items ≡ rows_placed l.fn.chunks.entries l.fn.placed.items) × (all_back l.before.items l.chunks.entries ≡ all_back l.fn.before.items l.fn.chunks.entries)
