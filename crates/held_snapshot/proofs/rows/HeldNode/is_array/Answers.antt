use Rattle.std.proofs.Common.{ℕ, ◌==◌, ap, sym, ◌∙◌}
use Rattle.snapshot_file.specs.declared.nodes.NodeRow.{NodeRow}
use Rattle.held_manifest.proofs.Checked.{ok_by, ok_same}
use Rattle.held_snapshot.specs.LookUp.{is_array}
use Rattle.held_snapshot.proofs.Parts.{some_node, type_tells}
use Rattle.held_snapshot.proofs.rows.HeldNode.is_array.Goals as goal

pub unwrap-requires : goal.unwrap-requires
unwrap-requires c =
    let parts = some_node c.self.inside.at c.self.inside.table c.self.invariant in
    ok_by c.number_in.result _ (c.number_in.ensures ∙ parts.type_is)

pub returns : goal.returns
returns c =
    let parts = some_node c.self.inside.at c.self.inside.table c.self.invariant in
    let same = ok_same c.unwrap.result parts.type (sym c.unwrap.ensures ∙ c.number_in.ensures ∙ parts.type_is) in
    ap (λ (n : ℕ). n == 1) same ∙ type_tells parts.type parts.child _ parts.kind_is ∙ ap (λ (r : NodeRow). is_array r.kind) c.self.view_is
