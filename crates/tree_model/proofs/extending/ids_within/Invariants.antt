use Rattle.std.proofs.Common.{◌≡◌, ◌++◌, length}
use Rattle.std.specs.FinMap.{entries}
use Rattle.tree_model.specs.inside.Entering.{ids_within}
use Rattle.tree_model.proofs.extending.ids_within.Given as goal

abbrev pub invariant-loop-path : goal.invariant-loop-path
invariant-loop-path l = l.ids ++ ids_within l.of l.rows ≡ ids_within l.of (entries l.nodes)

abbrev pub decreases-loop-path : goal.decreases-loop-path
decreases-loop-path l = length l.rows
