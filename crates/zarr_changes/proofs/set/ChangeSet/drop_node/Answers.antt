use Rattle.std.proofs.Common.{◌≡◌, ◌∙◌, ℕ, List, cond, not, ap, sym, Some, option_map}
use Rattle.std.specs.FinMap.{FinMap, get, retain_keys}
use Rattle.std.specs.List.{filter}
use Rattle.ice_ids.specs.declared.Id8.{Id8}
use Rattle.manifest_file.specs.declared.manifest.Place.{Place}
use Rattle.zarr_path.specs.Paths.{path_cmp, is_within}
use Rattle.zarr_tree.specs.Nodes.{Node}
use Rattle.zarr_tree.specs.Rows.{node_found}
use Rattle.zarr_tree.specs.Changes.{has_id, has_id_within}
use Rattle.zarr_tree.specs.Touched.{lists}
use Rattle.zarr_tree.specs.Held.{Held, HeldEntry, nodes_over}
use Rattle.zarr_changes.specs.declared.set.ChangeSet.TheInside.{Inside}
use Rattle.zarr_changes.specs.Edits.{with_id}
use Rattle.zarr_changes.specs.inside.Own.{texts_left, chunks_left}
use Rattle.zarr_changes.proofs.DropLaws.{drop_allowed, dropped_node}
use Rattle.zarr_changes.proofs.set.ChangeSet.drop_node.Goals as goal
use Rattle.zarr_changes.proofs.set.ChangeSet.drop_node.Goals.{then-has_own+in_ok-insert, else-has_own}

pub returns : goal.returns
returns g c =
    let held : Held Place = c.args.self.now in
    let nodes : FinMap path_cmp Node = g.B.TreeLike.nodes c.args.base.now in
    let p : List ℕ = c.args.path.now in
    let n : Node = node_found c.in-Some.found in
    let found : get (nodes_over held nodes) p ≡ Some n = ap (get (nodes_over held nodes)) (sym c.as_str-text.ensures.value) ∙ sym c.lookup.ensures ∙ ap (option_map node_found) c.in-Some.is in
    let own : c.has_own.result ≡ has_id n.id (get nodes p) = c.has_own.ensures ∙ ap (λ q. has_id n.id (get nodes q)) c.as_str-text.ensures.value in
    let out : c.if-has_own.self-inside.dropped ≡ cond c.has_own.result (with_id c.self.inside.dropped n.id) c.self.inside.dropped =
    elim c.if-has_own.branch [
      | then-has_own+in_ok-insert w ↦ ap (λ (s : Inside). s.dropped) w.self-inside-is ∙ w.in_ok-insert.ensures.ok ∙ ap (λ b. cond b (with_id c.self.inside.dropped n.id) c.self.inside.dropped) (sym w.if-has_own.true)
      | else-has_own w ↦ ap (λ (s : Inside). s.dropped) w.self-inside-is ∙ ap (λ b. cond b (with_id c.self.inside.dropped n.id) c.self.inside.dropped) (sym w.if-has_own.false)
    ] in
    let same_added : c.if-has_own.self-inside.added ≡ c.self.inside.added =
    elim c.if-has_own.branch [ then-has_own+in_ok-insert w ↦ ap (λ (s : Inside). s.added) w.self-inside-is | else-has_own w ↦ ap (λ (s : Inside). s.added) w.self-inside-is ] in
    let same_metas : c.if-has_own.self-inside.metas ≡ c.self.inside.metas =
    elim c.if-has_own.branch [ then-has_own+in_ok-insert w ↦ ap (λ (s : Inside). s.metas) w.self-inside-is | else-has_own w ↦ ap (λ (s : Inside). s.metas) w.self-inside-is ] in
    let left : c.remove_within.new.self ≡ retain_keys held.added (λ q. not (is_within p q)) =
    c.remove_within.ensures ∙ (λ i. retain_keys (same_added i) (λ q. not (is_within (c.as_str-text.ensures.value i) q))) ∙ ap (λ (h : Held Place). retain_keys h.added (λ q. not (is_within p q))) c.self.view_is in
    let kept : c.remove_all.new.self ≡ filter (λ (row : Id8 × List ℕ). not (lists c.in_ok-ids.ids row.0)) held.metas =
    c.remove_all.ensures ∙ ap (filter (λ (row : Id8 × List ℕ). not (lists c.in_ok-ids.ids row.0))) (same_metas ∙ ap (λ (h : Held Place). h.metas) c.self.view_is) in
    let same_entries : c.if-has_own.self-inside.entries ≡ c.self.inside.entries =
    elim c.if-has_own.branch [ then-has_own+in_ok-insert w ↦ ap (λ (s : Inside). s.entries) w.self-inside-is | else-has_own w ↦ ap (λ (s : Inside). s.entries) w.self-inside-is ] in
    let stay : c.remove_all-2.new.self ≡ chunks_left held (lists c.in_ok-ids.ids) =
    c.remove_all-2.ensures ∙ ap (filter (λ (row : HeldEntry Place). not (lists c.in_ok-ids.ids row.0))) (same_entries ∙ ap (λ (h : Held Place). h.chunks) c.self.view_is) in
    let held_within : chunks_left held (lists c.in_ok-ids.ids) ≡ chunks_left held (has_id_within (nodes_over held nodes) p) =
    c.in_ok-ids.ensures.chunks ∙ (λ i. chunks_left held (has_id_within (nodes_over held nodes) (c.as_str-text.ensures.value i))) in
    let within : texts_left held (lists c.in_ok-ids.ids) ≡ texts_left held (has_id_within (nodes_over held nodes) p) =
    c.in_ok-ids.ensures.texts ∙ (λ i. texts_left held (has_id_within (nodes_over held nodes) (c.as_str-text.ensures.value i))) in (
      drop_allowed held nodes p n found,
      dropped_node held nodes p n found c.has_own.result c.in_ok-ids.ids c.if-has_own.self-inside.dropped c.remove_within.new.self c.remove_all.new.self c.remove_all-2.new.self own
          (out ∙ ap (λ (h : Held Place). cond c.has_own.result (with_id h.dropped n.id) h.dropped) c.self.view_is) left kept within stay held_within,
    )
