use Rattle.std.proofs.Common.{◌≡◌, ◌<◌, ℕ, length, slice_index_or}
use Rattle.manifest_index.specs.Extents.{IsExtent}
use Rattle.manifest_index.proofs.extents.extents_of.Given as goal

abbrev pub invariant-loop-k : goal.invariant-loop-k
invariant-loop-k l = (length l.extents ≡ l.k) × ((k : ℕ) (e : ℕ × ℕ) → k < l.k → IsExtent k l.refs (slice_index_or l.extents k e))
