use Rattle.std.proofs.Common.{◌≡◌, length, false}
use Rattle.std.specs.FinMap.{entries}
use Rattle.zarr_tree.specs.Nodes.{Node}
use Rattle.tree_model.specs.inside.Putting.{put_kept}
use Rattle.tree_model.proofs.trees_under.put_all.Given as goal

abbrev pub invariant-loop-path : goal.invariant-loop-path
invariant-loop-path l = put_kept (λ p. false) (λ (n : Node). n) l.under l.rows ≡ put_kept (λ p. false) (λ (n : Node). n) l.fn.under (entries l.nodes)

abbrev pub decreases-loop-path : goal.decreases-loop-path
decreases-loop-path l = length l.rows
