use Rattle.std.proofs.Common.{◌≡◌, ◌++◌, length, map}
use Rattle.play_tasks.specs.Lines.{node_shown}
use Rattle.play_tasks.proofs.lines.show_nodes.Given as goal

abbrev pub invariant-loop-node : goal.invariant-loop-node
invariant-loop-node l = (l.shown.items ≡ l.fn.shown.items ++ map (node_shown l.line) l.yielded) × (l.yielded ++ l.node-iterator.rest.items ≡ l.fn.nodes.items) × (l.before ≡ length l.fn.shown.items)
