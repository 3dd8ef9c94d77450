use Rattle.std.proofs.Common.{◌≡◌, ◌≤◌, ◌∙◌, ap, sym, length, true, nat_eq, arith}
use Rattle.std.specs.FinMap.{len}
use Rattle.manifest_file.specs.declared.manifest.Place.{Place}
use Rattle.zarr_path.proofs.PathLaws.{by_numbers}
use Rattle.zarr_tree.specs.Rows.{node_found}
use Rattle.zarr_changes.specs.inside.Touching.{is_updated}
use Rattle.zarr_tree.specs.Held.{Held, updated_rows}
use Rattle.zarr_changes.specs.inside.Touching.{no_kinds, with_kinds}
use Rattle.zarr_changes.proofs.TouchLaws.{left, left-end, took, passed_over, ended, none_gathered, none-updated}
use Rattle.zarr_changes.proofs.set.ChangeSet.updated.Goals as goal
use Rattle.zarr_changes.proofs.set.ChangeSet.updated.Goals.{then-is_updated+in_ok-enter, else-is_updated}

pub returns-then-is_empty : goal.returns-then-is_empty
returns-then-is_empty g c =
    let held : Held Place = c.args.self.now in
    let bare : nat_eq (length held.metas) 0 ≡ true = ap (λ (h : Held Place). nat_eq (length h.metas) 0) (sym c.self.view_is) ∙ sym c.is_empty.ensures ∙ c.if-is_empty.true in
    none_gathered (updated_rows held (g.B.TreeLike.nodes c.args.base.now)) c.new-kinds.result c.new-kinds.ensures
    (none-updated held (g.B.TreeLike.nodes c.args.base.now) ((by_numbers (length held.metas) 0).0 bare))

pub loop-at-preserved : goal.loop-at-preserved
loop-at-preserved g c =
    let all = with_kinds no_kinds (updated_rows c.args.self.now (g.B.TreeLike.nodes c.args.base.now)) in
    elim c.if-is_updated.branch [
      | then-is_updated+in_ok-enter w ↦ took (g.B.TreeLike.nodes c.args.base.now) (is_updated c.args.self.now (g.B.TreeLike.nodes c.args.base.now)) c.loop-at.at (c.row.result.0.now, node_found c.row.result.1)
          c.loop-at.kinds c.if-is_updated.kinds all c.row.ensures.row (sym c.is_updated.ensures ∙ w.if-is_updated.true) (w.kinds-is ∙ w.in_ok-enter.ensures) c.loop-at.invariant
      | else-is_updated w ↦ passed_over (g.B.TreeLike.nodes c.args.base.now) (is_updated c.args.self.now (g.B.TreeLike.nodes c.args.base.now)) c.loop-at.at (c.row.result.0.now, node_found c.row.result.1)
          c.loop-at.kinds c.if-is_updated.kinds all c.row.ensures.row (sym c.is_updated.ensures ∙ w.if-is_updated.false) w.kinds-is c.loop-at.invariant
    ]

pub returns : goal.returns
returns g c =
    let behind : len (g.B.TreeLike.nodes c.args.base.now) ≤ c.loop-at.at = omega (arith, c.loop-at-test.false, c.len-at-end.ensures) in
    ended (left (g.B.TreeLike.nodes c.args.base.now) (is_updated c.args.self.now (g.B.TreeLike.nodes c.args.base.now)) c.loop-at.at) (updated_rows c.args.self.now (g.B.TreeLike.nodes c.args.base.now)) c.loop-at.kinds c.loop-at.invariant
    (left-end (g.B.TreeLike.nodes c.args.base.now) (is_updated c.args.self.now (g.B.TreeLike.nodes c.args.base.now)) c.loop-at.at behind)
