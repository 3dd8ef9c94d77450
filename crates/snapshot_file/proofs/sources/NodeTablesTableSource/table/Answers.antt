use Rattle.std.proofs.Common.{◌∙◌, Some, ap, sym}
use Rattle.std.proofs.lemmas.Option.{slice_get-map}
use Rattle.std.proofs.lemmas.Result.{IfOk-weaker}
use Rattle.std.specs.Prelude.{option_map}
use Rattle.flat_tables.specs.Layout.{Block}
use Rattle.flat_tables.specs.declared.flat.Flat.{Flat}
use Rattle.snapshot_file.specs.Layout.{node_block}
use Rattle.snapshot_file.proofs.sources.NodeTablesTableSource.table.Goals as goal

pub returns-clause-layout : goal.returns-clause-layout
returns-clause-layout g c =
    let rows = g.S.RowSource.rows c.args.self.now.rows.now in
    IfOk-weaker c.node_table.result _ _ (λ (flat : Flat) is. slice_get-map node_block rows c.args.at ∙ ap (option_map node_block) c.in_ok-row.ensures ∙ ap (λ (b : Block). Some b) (sym is)) c.node_table.ensures.block
