use Rattle.std.proofs.Common.{◌<◌, ◌^◌}
use Rattle.manifest_index.proofs.Spans.{Spans}
use Rattle.manifest_index.proofs.extents.extent_at.Given as goal

abbrev pub invariant-loop-chunk : goal.invariant-loop-chunk
invariant-loop-chunk l = Spans l.k l.refs l.chunk-index l.first l.last × (l.last < 2 ^ 32)
