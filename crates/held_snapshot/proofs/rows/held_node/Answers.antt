use Rattle.std.proofs.Common.{Ok, ap, sym, ◌∙◌}
use Rattle.flat_tables.specs.Places.{TableIn}
use Rattle.snapshot_file.specs.Nodes.{node_of}
use Rattle.held_manifest.proofs.Checked.{ok_by, ok_same}
use Rattle.held_snapshot.specs.Views.{row_seen}
use Rattle.held_snapshot.proofs.Parts.{node_table}
use Rattle.held_snapshot.proofs.rows.held_node.Goals as goal

pub unwrap-table-requires : goal.unwrap-table-requires
unwrap-table-requires c =
    let parts = node_table c.args.vector.now c.args.at c.requires.read in
    ok_by c.table_at.result parts.table (c.table_at.ensures ∙ parts.table_is)

pub invariant_of-result : goal.invariant_of-result
invariant_of-result c =
    let parts = node_table c.args.vector.now c.args.at c.requires.read in
    let same = ok_same c.unwrap-table.result parts.table (sym c.unwrap-table.ensures ∙ c.table_at.ensures ∙ parts.table_is) in
    ok_by (node_of c.args.at c.unwrap-table.result) _ (ap (node_of c.args.at) same ∙ parts.node_is)

pub returns : goal.returns
returns c =
    let parts = node_table c.args.vector.now c.args.at c.requires.read in
    let same = ok_same c.unwrap-table.result parts.table (sym c.unwrap-table.ensures ∙ c.table_at.ensures ∙ parts.table_is) in
    parts.is ∙ ap (λ (t : TableIn). Ok (row_seen c.args.at t)) (sym same)
