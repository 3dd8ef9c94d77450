use Rattle.std.proofs.Common.{false, ◌∙◌, ap}
use Rattle.std.specs.FinMap.{FinMap, entries}
use Rattle.zarr_path.specs.Paths.{path_cmp}
use Rattle.zarr_tree.specs.Nodes.{Node}
use Rattle.tree_model.specs.Models.{changes_of}
use Rattle.tree_model.specs.inside.Putting.{put_kept}
use Rattle.tree_model.proofs.Putting.{under-put}
use Rattle.tree_model.proofs.changes.Changes.nodes_under.Goals as goal

pub returns : goal.returns
returns c =
    c.in_ok-put_all.ensures
    ∙ ap (λ (own : FinMap path_cmp Node). put_kept (λ p. false) (λ (n : Node). n) own (entries c.args.self.now.added)) c.in_ok-under.ensures
    ∙ under-put (changes_of c.args.self.now) c.args.nodes.now
