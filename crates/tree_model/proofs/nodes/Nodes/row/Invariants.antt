use Rattle.std.proofs.Common.{◌≡◌, drop}
use Rattle.std.specs.FinMap.{entries}
use Rattle.tree_model.proofs.nodes.Nodes.row.Given as goal

abbrev pub invariant-loop : goal.invariant-loop
invariant-loop l = drop l.counter (entries l.fn.self) ≡ l.rows
