use Rattle.std.proofs.Common.{◌∙◌, arith}
use Rattle.held_snapshot.proofs.Made.{take_more, take_whole}
use Rattle.held_snapshot.proofs.files.HeldFiles.copy.Goals as goal

pub loop-i-preserved : goal.loop-i-preserved
loop-i-preserved c = rw (c.in_ok-push.ensures.items, c.loop-i.invariant) (take_more c.args.self.now c.loop-i.i c.at.result c.at.ensures)

pub returns : goal.returns
returns c = rw c.from_vec.ensures (c.loop-i.invariant ∙ take_whole c.args.self.now c.loop-i.i (omega arith))
