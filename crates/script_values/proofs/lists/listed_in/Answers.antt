use Rattle.script_values.specs.Words.{pieces, seen}
use Rattle.script_values.specs.SoFar.{parts_seen}
use Rattle.script_values.proofs.Earliest.{one_more_part}
use Rattle.script_values.proofs.lists.listed_in.Goals as goal

pub loop-left-preserved : goal.loop-left-preserved
loop-left-preserved g c =
    one_more_part g.N.Listed.stands_for (parts_seen c.loop-left.numbers) (parts_seen c.in_ok-numbers.numbers) c.read.result c.cut.result.0.now (pieces 44 (seen c.cut.result.1)) (pieces 44 (seen c.loop-left.left)) _
    c.loop-left.invariant (rw c.in-Some.is c.cut.ensures.parts) c.read.ensures c.in_ok-numbers.ensures
