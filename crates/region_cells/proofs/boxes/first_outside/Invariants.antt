use Rattle.std.proofs.Common.{◌≡◌, ◌<◌, ℕ, true, pos, get_or}
use Rattle.zarr_meta.specs.Kinds.{is_in_range}
use Rattle.region_cells.proofs.boxes.first_outside.Given as goal

abbrev pub invariant-loop-at : goal.invariant-loop-at
invariant-loop-at l = (k : ℕ) → k < l.at → is_in_range l.kind (get_or l.cells k (pos 0)) ≡ true
