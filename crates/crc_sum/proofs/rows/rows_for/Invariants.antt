use Rattle.std.proofs.Common.{◌≡◌, ℕ, ◌<◌, Some, length, slice_get}
use Rattle.crc_sum.specs.Crc.{row_at}
use Rattle.crc_sum.proofs.rows.rows_for.Given as goal

abbrev pub invariant-loop-place : goal.invariant-loop-place
invariant-loop-place l = record {
  size : length l.rows.items ≡ l.place;
  rows_are : (k : ℕ) → k < l.place → slice_get l.rows.items k ≡ Some (row_at l.polynomial k);
}
