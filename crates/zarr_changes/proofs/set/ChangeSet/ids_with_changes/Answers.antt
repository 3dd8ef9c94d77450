use Rattle.std.proofs.Common.{◌≡◌, ◌∙◌, length, true, nat_eq, ap, sym}
use Rattle.std.specs.FinMap.{FinMap}
use Rattle.manifest_file.specs.declared.manifest.Place.{Place}
use Rattle.zarr_path.specs.Paths.{path_cmp}
use Rattle.zarr_path.proofs.PathLaws.{by_numbers}
use Rattle.zarr_tree.specs.Nodes.{Node}
use Rattle.zarr_tree.specs.Changes.{has_id_within}
use Rattle.zarr_tree.specs.Touched.{lists}
use Rattle.zarr_tree.specs.Held.{Held, nodes_over}
use Rattle.std.proofs.lemmas.Result.{IfOk-weaker}
use Rattle.zarr_changes.specs.inside.Own.{within_rows}
use Rattle.zarr_changes.proofs.DropLaws.{within-entries, no_texts, same_texts, same_chunks}
use Rattle.zarr_changes.proofs.set.ChangeSet.ids_with_changes.Goals as goal

pub returns-then-is_empty-2-clause-texts : goal.returns-then-is_empty-2-clause-texts
returns-then-is_empty-2-clause-texts g c =
    let held : Held Place = c.args.self.now in
    let nodes : FinMap path_cmp Node = g.B.TreeLike.nodes c.args.base.now in
    let bare : nat_eq (length held.metas) 0 ≡ true = ap (λ (h : Held Place). nat_eq (length h.metas) 0) (sym c.self.view_is) ∙ sym c.is_empty.ensures ∙ c.if-is_empty.true in
    no_texts held (lists c.new.result) (has_id_within (nodes_over held nodes) c.args.path.now) ((by_numbers (length held.metas) 0).0 bare)

pub returns-clause-texts : goal.returns-clause-texts
returns-clause-texts g c =
    let held : Held Place = c.args.self.now in
    let nodes : FinMap path_cmp Node = g.B.TreeLike.nodes c.args.base.now in
    IfOk-weaker c.ids_within.result _ _ (λ ids e. same_texts held (lists ids) (has_id_within (nodes_over held nodes) c.args.path.now)
    (λ id. e id ∙ ap (λ rows. within_rows rows c.args.path.now id) c.over.ensures ∙ within-entries (nodes_over held nodes) c.args.path.now id)) c.ids_within.ensures

pub returns-clause-chunks : goal.returns-clause-chunks
returns-clause-chunks g c =
    let held : Held Place = c.args.self.now in
    let nodes : FinMap path_cmp Node = g.B.TreeLike.nodes c.args.base.now in
    IfOk-weaker c.ids_within.result _ _ (λ ids e. same_chunks held (lists ids) (has_id_within (nodes_over held nodes) c.args.path.now)
    (λ id. e id ∙ ap (λ rows. within_rows rows c.args.path.now id) c.over.ensures ∙ within-entries (nodes_over held nodes) c.args.path.now id)) c.ids_within.ensures
