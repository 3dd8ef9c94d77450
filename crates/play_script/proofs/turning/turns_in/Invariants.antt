use Rattle.std.proofs.Common.{◌≡◌}
use Rattle.script_values.specs.Words.{pieces, seen}
use Rattle.script_values.specs.Parts.{each}
use Rattle.play_script.specs.Places.{turn_of}
use Rattle.script_values.specs.SoFar.{parts_seen}
use Rattle.script_values.proofs.Earliest.{joined, left_size}
use Rattle.play_script.proofs.turning.turns_in.Given as goal

abbrev pub invariant-loop-left : goal.invariant-loop-left
invariant-loop-left l = joined (parts_seen l.turns) (each (turn_of l.tasks) (pieces 32 (seen l.left))) ≡ each (turn_of l.tasks) (pieces 32 (seen l.fn.rest))

abbrev pub decreases-loop-left : goal.decreases-loop-left
decreases-loop-left l = left_size (seen l.left)
