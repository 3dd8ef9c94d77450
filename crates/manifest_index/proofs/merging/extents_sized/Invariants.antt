use Rattle.std.specs.List.{AllWithin}
use Rattle.manifest_index.specs.inside.Chunks.{IsSized}
use Rattle.manifest_index.proofs.merging.extents_sized.Given as goal

abbrev pub invariant-loop-extent : goal.invariant-loop-extent
invariant-loop-extent l = AllWithin IsSized l.extents 0 l.extent-index
