use Rattle.std.proofs.Common.{◌≡◌, drop, None}
use Rattle.std.specs.Option.{option_copied}
use Rattle.tree_model.specs.Models.{held_after}
use Rattle.tree_model.proofs.trees.Tree.chunk.Given as goal

abbrev pub invariant-loop-write : goal.invariant-loop-write
invariant-loop-write l = held_after l.fn.path l.fn.index (option_copied l.held) (drop l.write-index l.fn.self.writes) ≡ held_after l.fn.path l.fn.index None l.fn.self.writes
