use Rattle.std.proofs.Common.{ℕ, Option, Some, ap, sym, ◌∙◌}
use Rattle.flat_tables.specs.Places.{TableIn}
use Rattle.snapshot_file.specs.declared.nodes.NodeKind.{NodeKind}
use Rattle.snapshot_file.specs.declared.nodes.NodeRow.{NodeRow}
use Rattle.snapshot_file.specs.Nodes.{kind_of}
use Rattle.held_manifest.proofs.Checked.{ok_by, ok_same, some_same}
use Rattle.held_snapshot.proofs.Parts.{some_node, has_kind}
use Rattle.held_snapshot.proofs.rows.HeldNode.kind.Goals as goal

pub unwrap-node_type-requires : goal.unwrap-node_type-requires
unwrap-node_type-requires c =
    let parts = some_node c.self.inside.at c.self.inside.table c.self.invariant in
    ok_by c.number_in.result _ (c.number_in.ensures ∙ parts.type_is)

pub unwrap-child-requires : goal.unwrap-child-requires
unwrap-child-requires c =
    let parts = some_node c.self.inside.at c.self.inside.table c.self.invariant in
    ok_by c.table_in.result _ (c.table_in.ensures ∙ parts.child_is)

pub held_kind-requires : goal.held_kind-requires
held_kind-requires c =
    let parts = some_node c.self.inside.at c.self.inside.table c.self.invariant in
    let type = ok_same c.unwrap-node_type.result parts.type (sym c.unwrap-node_type.ensures ∙ c.number_in.ensures ∙ parts.type_is) in
    let child = ok_same c.unwrap-child.result parts.child (sym c.unwrap-child.ensures ∙ c.table_in.ensures ∙ parts.child_is) in
    has_kind _ _ _ (ap (λ (n : ℕ). kind_of n c.unwrap-child.result) type ∙ ap (λ (t : TableIn). kind_of parts.type t) child ∙ parts.kind_is)

pub returns : goal.returns
returns c =
    let parts = some_node c.self.inside.at c.self.inside.table c.self.invariant in
    let type = ok_same c.unwrap-node_type.result parts.type (sym c.unwrap-node_type.ensures ∙ c.number_in.ensures ∙ parts.type_is) in
    let child = ok_same c.unwrap-child.result parts.child (sym c.unwrap-child.ensures ∙ c.table_in.ensures ∙ parts.child_is) in
    let is = ap (λ (n : ℕ). kind_of n c.unwrap-child.result) type ∙ ap (λ (t : TableIn). kind_of parts.type t) child ∙ parts.kind_is in
    let same = ok_same {A = Option NodeKind} (Some c.held_kind.result) (Some _) (sym c.held_kind.ensures ∙ is) in
    some_same c.held_kind.result _ same ∙ ap (λ (r : NodeRow). r.kind) c.self.view_is
