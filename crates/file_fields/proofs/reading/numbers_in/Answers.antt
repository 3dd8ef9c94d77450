use Rattle.std.proofs.Common.{arith}
use Rattle.std.specs.Int.{w32, from_le_bytes}
use Rattle.file_fields.proofs.LoopLaws.{one_more}
use Rattle.file_fields.proofs.reading.numbers_in.Goals as goal

pub loop-at-preserved : goal.loop-at-preserved
loop-at-preserved c = rw (c.in_ok-push.ensures.items, c.u32_of.ensures, c.item.ensures.item) (one_more (from_le_bytes w32) c.args.vector.now c.loop-at.numbers.items c.loop-at.at c.args.vector.now.count _ (omega arith) c.loop-at.invariant)
