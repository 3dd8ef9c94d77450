use Rattle.std.proofs.Common.{◌≡◌, ◌++◌}
use Rattle.manifest_index.proofs.Collected.{rows_of}
use Rattle.manifest_index.proofs.chunks.into_refs.Given as goal

-- the chunks so far, and those that are left
abbrev pub invariant-loop-index : goal.invariant-loop-index
invariant-loop-index l = l.refs ++ rows_of l.index-iterator ≡ rows_of l.fn.chunks.entries
