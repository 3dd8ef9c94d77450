use Rattle.std.proofs.Common.{◌≡◌, ◌∙◌, length, ap, sym, Some, arith}
use Rattle.std.specs.Prelude.{slice_get}
use Rattle.std.proofs.lemmas.Result.{IfOk-weaker}
use Rattle.snapshot_file.specs.declared.nodes.NodeRow.{NodeRow}
use Rattle.changed_snapshot.proofs.Walks.{rows_long, row_made_at, path_at}
use Rattle.changed_snapshot.proofs.rows.RowsOverRowSource.row.Goals as goal

pub row_over-requires-clause-path : goal.row_over-requires-clause-path
row_over-requires-clause-path c =
    let s = c.self.inside in
    let long : length c.args.self.now ≡ length s.nodes.items = ap length (sym c.self.view_is) ∙ rows_long s.news.now s.old s.nodes.items in
    path_at s.nodes.items c.args.at c.index.result.now c.self.invariant.1 (omega (arith, long, c.requires)) c.index.ensures

pub returns : goal.returns
returns c =
    let s = c.self.inside in
    let long : length c.args.self.now ≡ length s.nodes.items = ap length (sym c.self.view_is) ∙ rows_long s.news.now s.old s.nodes.items in
    let there = row_made_at s.news.now s.old s.nodes.items c.args.at c.index.result.now (omega (arith, long, c.requires)) c.index.ensures in
    IfOk-weaker c.row_over.result _ _ (λ (row : NodeRow) is. ap (λ rows. slice_get rows c.args.at) (sym c.self.view_is) ∙ there ∙ ap (λ (r : NodeRow). Some r) (sym is)) c.row_over.ensures
