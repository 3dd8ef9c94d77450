use Rattle.script_values.specs.Words.{pieces, seen}
use Rattle.play_script.specs.Places.{turn_of}
use Rattle.script_values.specs.SoFar.{parts_seen}
use Rattle.script_values.proofs.Earliest.{one_more_part}
use Rattle.play_script.proofs.turning.turns_in.Goals as goal

pub loop-left-preserved : goal.loop-left-preserved
loop-left-preserved c =
    one_more_part (turn_of c.args.tasks.now) (parts_seen c.loop-left.turns) (parts_seen c.in_ok-turns.turns) c.turn_in.result c.cut.result.0.now (pieces 32 (seen c.cut.result.1)) (pieces 32 (seen c.loop-left.left)) _
    c.loop-left.invariant (rw c.in-Some.is c.cut.ensures.parts) c.turn_in.ensures c.in_ok-turns.ensures
