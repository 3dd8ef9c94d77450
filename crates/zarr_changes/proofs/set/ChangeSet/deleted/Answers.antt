use Rattle.std.proofs.Common.{◌≡◌, ◌≤◌, ◌∙◌, ap, sym, length, true, nat_eq, arith}
use Rattle.std.specs.FinMap.{len}
use Rattle.manifest_file.specs.declared.manifest.Place.{Place}
use Rattle.zarr_path.proofs.PathLaws.{by_numbers}
use Rattle.zarr_tree.specs.Rows.{node_found}
use Rattle.zarr_tree.specs.Changes.{is_gone}
use Rattle.zarr_tree.specs.Touched.{lists}
use Rattle.zarr_tree.specs.Held.{Held, gone_rows}
use Rattle.zarr_changes.specs.inside.Touching.{no_kinds, with_kinds}
use Rattle.zarr_changes.proofs.TouchLaws.{left, left-end, took, passed_over, ended, none_gathered, none-gone}
use Rattle.zarr_changes.proofs.set.ChangeSet.deleted.Goals as goal
use Rattle.zarr_changes.proofs.set.ChangeSet.deleted.Goals.{then-is_gone+in_ok-enter, else-is_gone}

pub returns-then-is_empty : goal.returns-then-is_empty
returns-then-is_empty g c =
    let held : Held Place = c.args.self.now in
    let bare : nat_eq (length held.dropped) 0 ≡ true = ap (λ (h : Held Place). nat_eq (length h.dropped) 0) (sym c.self.view_is) ∙ sym c.is_empty.ensures ∙ c.if-is_empty.true in
    none_gathered (gone_rows held (g.B.TreeLike.nodes c.args.base.now)) c.new-kinds.result c.new-kinds.ensures
    (none-gone held (g.B.TreeLike.nodes c.args.base.now) ((by_numbers (length held.dropped) 0).0 bare))

pub loop-at-preserved : goal.loop-at-preserved
loop-at-preserved g c =
    let all = with_kinds no_kinds (gone_rows c.args.self.now (g.B.TreeLike.nodes c.args.base.now)) in
    elim c.if-is_gone.branch [
      | then-is_gone+in_ok-enter w ↦ took (g.B.TreeLike.nodes c.args.base.now) (λ row. is_gone (lists c.args.self.now.dropped) (g.B.TreeLike.nodes c.args.base.now) row.0) c.loop-at.at (c.row.result.0.now, node_found c.row.result.1)
          c.loop-at.kinds c.if-is_gone.kinds all c.row.ensures.row (sym c.is_gone.ensures ∙ w.if-is_gone.true) (w.kinds-is ∙ w.in_ok-enter.ensures) c.loop-at.invariant
      | else-is_gone w ↦ passed_over (g.B.TreeLike.nodes c.args.base.now) (λ row. is_gone (lists c.args.self.now.dropped) (g.B.TreeLike.nodes c.args.base.now) row.0) c.loop-at.at (c.row.result.0.now, node_found c.row.result.1)
          c.loop-at.kinds c.if-is_gone.kinds all c.row.ensures.row (sym c.is_gone.ensures ∙ w.if-is_gone.false) w.kinds-is c.loop-at.invariant
    ]

pub returns : goal.returns
returns g c =
    let behind : len (g.B.TreeLike.nodes c.args.base.now) ≤ c.loop-at.at = omega (arith, c.loop-at-test.false, c.len-at-end.ensures) in
    ended (left (g.B.TreeLike.nodes c.args.base.now) (λ row. is_gone (lists c.args.self.now.dropped) (g.B.TreeLike.nodes c.args.base.now) row.0) c.loop-at.at) (gone_rows c.args.self.now (g.B.TreeLike.nodes c.args.base.now)) c.loop-at.kinds c.loop-at.invariant
    (left-end (g.B.TreeLike.nodes c.args.base.now) (λ row. is_gone (lists c.args.self.now.dropped) (g.B.TreeLike.nodes c.args.base.now) row.0) c.loop-at.at behind)
