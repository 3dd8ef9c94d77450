use Rattle.std.proofs.Common.{◌≡◌, ℕ, List, vec_len}
use Rattle.manifest_index.specs.inside.Chunks.{chunk_at}
use Rattle.manifest_index.proofs.Entering.{after}
use Rattle.manifest_index.proofs.merging.enter_changes.Given as goal

-- what is left to be entered leads to the same chunks
abbrev pub invariant-loop-last : goal.invariant-loop-last
invariant-loop-last l = (q : List ℕ) → after l.rank q l.change.items (chunk_at q l.chunks) ≡ after l.rank q l.fn.change.items (chunk_at q l.fn.chunks)

abbrev pub decreases-loop-last : goal.decreases-loop-last
decreases-loop-last l = vec_len l.change
