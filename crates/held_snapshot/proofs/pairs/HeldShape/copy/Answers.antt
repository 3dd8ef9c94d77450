use Rattle.std.proofs.Common.{◌∙◌, arith}
use Rattle.held_snapshot.proofs.Made.{take_more, take_whole}
use Rattle.held_snapshot.proofs.pairs.HeldShape.copy.Goals as goal

pub loop-k-preserved : goal.loop-k-preserved
loop-k-preserved c = rw (c.in_ok-push.ensures.items, c.loop-k.invariant) (take_more c.args.self.now c.loop-k.k c.at.result c.at.ensures)

pub returns : goal.returns
returns c = rw c.from_vec.ensures (c.loop-k.invariant ∙ take_whole c.args.self.now c.loop-k.k (omega arith))
