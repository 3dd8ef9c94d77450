use Rattle.std.proofs.Common.{◌≡◌, ◌≤◌, ◌∙◌, ◌⊎◌, inl, inr, ap, sym, length, true, nat_eq, arith}
use Rattle.std.specs.FinMap.{len}
use Rattle.manifest_file.specs.declared.manifest.Place.{Place}
use Rattle.zarr_path.proofs.PathLaws.{by_numbers}
use Rattle.zarr_tree.specs.Nodes.{is_metadata}
use Rattle.zarr_tree.specs.Rows.{node_found}
use Rattle.zarr_tree.specs.Changes.{is_gone}
use Rattle.zarr_tree.specs.Touched.{lists}
use Rattle.zarr_tree.specs.Held.{Held}
use Rattle.zarr_changes.specs.inside.Touching.{is_updated}
use Rattle.zarr_changes.proofs.TouchLaws.{touching, some-here, some-later, some-end, none-touched, found_metadata, touches, touches_not}
use Rattle.zarr_changes.proofs.set.ChangeSet.touches_base.Goals as goal
use Rattle.zarr_changes.proofs.set.ChangeSet.touches_base.Goals.{then-is_gone-via-then-is_gone, then-is_gone-via-else-is_gone+then-is_updated}

pub returns-then-is_empty-2 : goal.returns-then-is_empty-2
returns-then-is_empty-2 g c =
    let held : Held Place = c.args.self.now in
    let no_drop : nat_eq (length held.dropped) 0 ≡ true = ap (λ (h : Held Place). nat_eq (length h.dropped) 0) (sym c.self.view_is) ∙ sym c.is_empty.ensures ∙ c.if-is_empty.true in
    let no_meta : nat_eq (length held.metas) 0 ≡ true = ap (λ (h : Held Place). nat_eq (length h.metas) 0) (sym c.self.view_is) ∙ sym c.is_empty-then-is_empty.ensures ∙ c.if-is_empty-2.true in
    sym (none-touched held (g.B.TreeLike.nodes c.args.base.now) ((by_numbers (length held.dropped) 0).0 no_drop) ((by_numbers (length held.metas) 0).0 no_meta))

pub returns-then-is_gone : goal.returns-then-is_gone
returns-then-is_gone g c =
    let held : Held Place = c.args.self.now in
    let nodes = g.B.TreeLike.nodes c.args.base.now in
    let one : (is_gone (lists held.dropped) nodes c.row.result.0.now ≡ true) ⊎ (is_updated held nodes (c.row.result.0.now, node_found c.row.result.1) ≡ true) =
    elim c.then-is_gone.branch [
      | then-is_gone-via-then-is_gone w ↦ inl (sym c.is_gone.ensures ∙ w.if-is_gone.true)
      | then-is_gone-via-else-is_gone+then-is_updated w ↦ inr (sym w.is_updated.ensures ∙ w.if-is_updated.true)
    ] in
    sym (some-here nodes (touching held nodes) c.loop-at.at (c.row.result.0.now, node_found c.row.result.1) c.row.ensures.row
    (touches (is_metadata (node_found c.row.result.1).text) _ _ (found_metadata c.row.result.1) one)) ∙ c.loop-at.invariant

pub loop-at-preserved : goal.loop-at-preserved
loop-at-preserved g c =
    let held : Held Place = c.args.self.now in
    let nodes = g.B.TreeLike.nodes c.args.base.now in
    sym (some-later nodes (touching held nodes) c.loop-at.at (c.row.result.0.now, node_found c.row.result.1) c.row.ensures.row
    (touches_not (is_metadata (node_found c.row.result.1).text) _ _ (sym c.is_gone.ensures ∙ c.if-is_gone.false) (sym c.is_updated.ensures ∙ c.if-is_updated.false))) ∙ c.loop-at.invariant

pub returns : goal.returns
returns g c =
    let behind : len (g.B.TreeLike.nodes c.args.base.now) ≤ c.loop-at.at = omega (arith, c.loop-at-test.false, c.len-at-end.ensures) in
    sym (some-end (g.B.TreeLike.nodes c.args.base.now) (touching c.args.self.now (g.B.TreeLike.nodes c.args.base.now)) c.loop-at.at behind) ∙ c.loop-at.invariant
