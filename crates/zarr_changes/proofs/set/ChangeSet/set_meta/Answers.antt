use Rattle.std.proofs.Common.{◌≡◌, ◌∙◌, ap, sym, Some, true, is_some, option_map}
use Rattle.std.specs.Borrow.{Bor}
use Rattle.std.specs.FinMap.{FinMap, get, insert}
use Rattle.manifest_file.specs.declared.manifest.Place.{Place}
use Rattle.zarr_path.specs.Paths.{path_cmp}
use Rattle.zarr_meta.specs.declared.metas.Meta.{Meta}
use Rattle.zarr_tree.specs.Nodes.{Node, frozen_change}
use Rattle.zarr_tree.specs.Rows.{node_found}
use Rattle.zarr_tree.specs.Held.{Held, nodes_over}
use Rattle.zarr_changes.proofs.AddLaws.{some-map}
use Rattle.zarr_changes.proofs.EditLaws.{text_allowed, text_added}
use Rattle.zarr_changes.proofs.set.ChangeSet.set_meta.Goals as goal

pub returns-in_ok-insert : goal.returns-in_ok-insert
returns-in_ok-insert g c =
    let held : Held Place = c.args.self.now in
    let nodes : FinMap path_cmp Node = g.B.TreeLike.nodes c.args.base.now in
    let n : Node = node_found c.in-Some.found in
    let found : get (nodes_over held nodes) c.args.path.now ≡ Some n =
    ap (get (nodes_over held nodes)) (sym c.as_str.ensures.value) ∙ sym c.lookup.ensures ∙ ap (option_map node_found) c.in-Some.is in
    let same_change = c.frozen_change.ensures ∙ ap (λ (m : Meta). frozen_change n.text m.text) c.deref.ensures in
    let there : is_some (get held.added c.args.path.now) ≡ true =
    (λ i. is_some (get (sym c.self.view_is i).added (sym c.as_str-2.ensures.value i))) ∙ ap is_some (sym c.find.ensures)
    ∙ some-map (λ (m : Bor Node). m.now) c.find.result ∙ sym c.is_some.ensures ∙ c.if-is_some.true in
    let after : c.insert.new.self ≡ insert held.added c.args.path.now (record { id = n.id; text = c.args.meta.text }) =
    c.in_ok-insert.ensures.ok ∙ (λ i. insert (c.self.view_is i).added c.args.path.now (record { id = n.id; text = c.args.meta.text })) in (
      text_allowed held nodes c.args.path.now c.args.meta.text n found c.frozen_change.result same_change c.in_default-frozen_change.is,
      ap (λ (h : Held Place). record h { added = c.insert.new.self }) c.self.view_is ∙ text_added held nodes c.args.path.now c.args.meta.text n found c.insert.new.self there after,
    )
