use Rattle.std.proofs.Common.{◌≡◌, ◌++◌}
use Rattle.std.specs.List.{zip}
use Rattle.std.specs.Slice.Iter.{iter_rest}
use Rattle.std.specs.Iterator.Adapters.{zip_first, zip_second}
use Rattle.changed_snapshot.proofs.rows.shape_of.Given as goal

-- the pairs so far, and those that are left
abbrev pub invariant-loop-length : goal.invariant-loop-length
invariant-loop-length l = l.shape.items ++ zip (iter_rest (zip_first l.length-iterator)) (iter_rest (zip_second l.length-iterator)) ≡ zip l.fn.lengths l.fn.chunks
