use Rattle.std.proofs.Common.{ap, sym, ◌∙◌}
use Rattle.snapshot_file.specs.declared.nodes.NodeRow.{NodeRow}
use Rattle.held_manifest.proofs.Checked.{ok_by, ok_same}
use Rattle.held_snapshot.proofs.Parts.{some_node}
use Rattle.held_snapshot.proofs.rows.HeldNode.id.Goals as goal

pub unwrap-requires : goal.unwrap-requires
unwrap-requires c =
    let parts = some_node c.self.inside.at c.self.inside.table c.self.invariant in
    ok_by c.id8_of.result _ (c.id8_of.ensures ∙ parts.id_is)

pub returns : goal.returns
returns c =
    let parts = some_node c.self.inside.at c.self.inside.table c.self.invariant in
    ok_same c.unwrap.result _ (sym c.unwrap.ensures ∙ c.id8_of.ensures ∙ parts.id_is) ∙ ap (λ (r : NodeRow). r.id) c.self.view_is
