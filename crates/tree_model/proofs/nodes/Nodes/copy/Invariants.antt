use Rattle.std.proofs.Common.{◌≡◌, ◌++◌}
use Rattle.std.specs.FinMap.{entries}
use Rattle.zarr_tree.specs.Rows.{node_rows}
use Rattle.tree_model.proofs.nodes.Nodes.copy.Given as goal

abbrev pub invariant-loop-text : goal.invariant-loop-text
invariant-loop-text l = entries l.copy ++ node_rows l.text-iterator ≡ entries l.fn.self
