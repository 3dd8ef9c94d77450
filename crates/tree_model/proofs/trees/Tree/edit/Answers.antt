use Rattle.std.proofs.Common.{◌∙◌, ℕ, List, Some, None, not, sym, ap}
use Rattle.std.specs.FinMap.{retain_keys}
use Rattle.zarr_path.specs.Paths.{is_within}
use Rattle.zarr_tree.specs.Edits.{edited}
use Rattle.tree_model.specs.declared.edits.Edit.{Edit}
use Rattle.tree_model.specs.declared.edits.Edit.TheVariants.{Set as Setting}
use Rattle.tree_model.specs.declared.trees.Write.TheVariants.{Chunk, Gone}
use Rattle.tree_model.specs.Models.{tree_of, edit_of}
use Rattle.tree_model.proofs.Writes.{tree_after}
use Rattle.tree_model.proofs.trees.Tree.edit.Goals as goal

pub returns-in_ok-drop_node-in-Drop-clause-ok : goal.returns-in_ok-drop_node-in-Drop-clause-ok
returns-in_ok-drop_node-in-Drop-clause-ok c =
    tree_after c.drop_node.new.self c.args.self.now (retain_keys c.args.self.now.nodes (λ q. not (is_within c.in-Drop.path q))) (Gone c.in-Drop.path)
    c.in_ok-drop_node-in-Drop.ensures.ok c.in_ok-drop_node-in-Drop.ensures.written
    ∙ ap (λ (e : Edit). edited (tree_of c.args.self.now) (edit_of e)) (sym c.in-Drop.is)

pub returns-in_ok-write-in-Set-clause-ok : goal.returns-in_ok-write-in-Set-clause-ok
returns-in_ok-write-in-Set-clause-ok c =
    tree_after c.write.new.self c.args.self.now c.args.self.now.nodes (Chunk c.in-Set.path c.in-Set.index (Some c.in_ok-bytes-in-Set.bytes))
    c.write.ensures.nodes c.in_ok-write-in-Set.ensures.ok
    ∙ ap (λ (b : List ℕ). edited (tree_of c.args.self.now) (edit_of (Setting c.in-Set.path c.in-Set.index b))) c.in_ok-bytes-in-Set.ensures
    ∙ ap (λ (e : Edit). edited (tree_of c.args.self.now) (edit_of e)) (sym c.in-Set.is)

pub returns-in_ok-write-in-Unset-clause-ok : goal.returns-in_ok-write-in-Unset-clause-ok
returns-in_ok-write-in-Unset-clause-ok c =
    tree_after c.write-in-Unset.new.self c.args.self.now c.args.self.now.nodes (Chunk c.in-Unset.path c.in-Unset.index None)
    c.write-in-Unset.ensures.nodes c.in_ok-write-in-Unset.ensures.ok
    ∙ ap (λ (e : Edit). edited (tree_of c.args.self.now) (edit_of e)) (sym c.in-Unset.is)
