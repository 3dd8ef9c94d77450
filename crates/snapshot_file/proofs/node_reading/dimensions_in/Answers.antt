use Rattle.std.proofs.Common.{arith}
use Rattle.snapshot_file.specs.Nodes.{dimension_of}
use Rattle.file_fields.proofs.LoopLaws.{one_more}
use Rattle.snapshot_file.proofs.node_reading.dimensions_in.Goals as goal

pub loop-at-preserved : goal.loop-at-preserved
loop-at-preserved c = rw (c.in_ok-push.ensures.items, c.dimension_of.ensures, c.item.ensures.item) (one_more dimension_of c.args.vector.now c.loop-at.dimensions.items c.loop-at.at c.args.vector.now.count _ (omega arith) c.loop-at.invariant)
