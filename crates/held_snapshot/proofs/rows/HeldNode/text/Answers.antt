use Rattle.std.proofs.Common.{ap, sym, ◌∙◌}
use Rattle.flat_tables.specs.Places.{all_of}
use Rattle.snapshot_file.specs.declared.nodes.NodeRow.{NodeRow}
use Rattle.held_manifest.proofs.Checked.{ok_by, ok_same}
use Rattle.held_snapshot.proofs.Parts.{some_node}
use Rattle.held_snapshot.proofs.rows.HeldNode.text.Goals as goal

pub unwrap-requires : goal.unwrap-requires
unwrap-requires c =
    let parts = some_node c.self.inside.at c.self.inside.table c.self.invariant in
    ok_by c.vector_in.result _ (c.vector_in.ensures.read ∙ parts.text_is)

pub returns : goal.returns
returns c =
    let parts = some_node c.self.inside.at c.self.inside.table c.self.invariant in
    let same = ok_same c.unwrap.result parts.text (sym c.unwrap.ensures ∙ c.vector_in.ensures.read ∙ parts.text_is) in
    c.all.ensures.all ∙ ap all_of same ∙ parts.bytes_are ∙ ap (λ (r : NodeRow). r.user_data) c.self.view_is
