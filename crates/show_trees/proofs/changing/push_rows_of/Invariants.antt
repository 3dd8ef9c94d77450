use Rattle.std.proofs.Common.{length}
use Rattle.show_trees.proofs.changing.push_rows_of.Given as goal

abbrev pub decreases-loop-path : goal.decreases-loop-path
decreases-loop-path l = length l.rows
