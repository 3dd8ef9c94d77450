use Rattle.std.proofs.Common.{◌≡◌, length}
use Rattle.script_values.specs.Words.{lines_of}
use Rattle.play_script.specs.Places.{has_line}
use Rattle.play_script.proofs.heads.has_line.Given as goal

abbrev pub invariant-loop-left : goal.invariant-loop-left
invariant-loop-left l = has_line (lines_of l.left) ≡ has_line (lines_of l.fn.text)

abbrev pub decreases-loop-left : goal.decreases-loop-left
decreases-loop-left l = length l.left
