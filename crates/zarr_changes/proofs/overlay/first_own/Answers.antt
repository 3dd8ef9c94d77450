use Rattle.std.proofs.Common.{◌≤◌, ◌∙◌, sym, arith}
use Rattle.std.specs.FinMap.{len}
use Rattle.zarr_tree.specs.Rows.{node_found}
use Rattle.zarr_changes.proofs.OwnLaws.{own-gone, own-stays, own-end}
use Rattle.zarr_changes.proofs.overlay.first_own.Goals as goal

pub returns-then-not-is_gone-clause-row : goal.returns-then-not-is_gone-clause-row
returns-then-not-is_gone-clause-row g c =
    c.loop-at.invariant
    ∙ own-stays c.args.set.now (g.B.TreeLike.nodes c.args.base.now) c.loop-at.at (c.row-row.result.0.now, node_found c.row-row.result.1) c.row-row.ensures.row (sym c.is_gone.ensures ∙ c.if-not-is_gone.true)

pub loop-at-preserved : goal.loop-at-preserved
loop-at-preserved g c =
    c.loop-at.invariant
    ∙ own-gone c.args.set.now (g.B.TreeLike.nodes c.args.base.now) c.loop-at.at (c.row-row.result.0.now, node_found c.row-row.result.1) c.row-row.ensures.row (sym c.is_gone.ensures ∙ c.if-not-is_gone.false)

pub returns-clause-row : goal.returns-clause-row
returns-clause-row g c =
    let behind : len (g.B.TreeLike.nodes c.args.base.now) ≤ c.loop-at.at = omega (arith, c.loop-at-test.false, c.len-at-end.ensures) in
    c.loop-at.invariant ∙ own-end c.args.set.now (g.B.TreeLike.nodes c.args.base.now) c.loop-at.at behind
