use Rattle.std.proofs.Common.{◌≡◌, ◌++◌, drop}
use Rattle.manifest_index.specs.Merging.{ids_within}
use Rattle.manifest_index.proofs.manifests_within.candidates.Given as goal

-- the ids so far, and those that the rest of the list has
abbrev pub invariant-loop-at : goal.invariant-loop-at
invariant-loop-at l = l.ids ++ ids_within l.index (drop l.at l.refs) ≡ ids_within l.index l.refs
