use Rattle.std.proofs.Common.{◌≤◌, ap, sym, subst, ◌∙◌}
use Rattle.std.specs.Prelude.{IsOk}
use Rattle.flat_tables.specs.Places.{VectorIn}
use Rattle.snapshot_file.specs.Snapshots.{node_limit, nodes_in}
use Rattle.held_manifest.proofs.Checked.{ok_by, ok_same, read_ok}
use Rattle.held_snapshot.proofs.Parts.{some_nodes, size_was}
use Rattle.held_snapshot.proofs.nodes.held_nodes.Goals as goal

pub unwrap-vector-requires : goal.unwrap-vector-requires
unwrap-vector-requires c =
    let some = some_nodes c.args.table.now c.requires in
    ok_by c.vector_in.result some.vector (c.vector_in.ensures.read ∙ some.vector_is)

pub invariant_of-result : goal.invariant_of-result
invariant_of-result c =
    let some = some_nodes c.args.table.now c.requires in
    let same = ok_same some.vector c.unwrap-vector.result (sym some.vector_is ∙ sym c.vector_in.ensures.read ∙ c.unwrap-vector.ensures) in
    (subst (λ (v : VectorIn). IsOk (nodes_in v)) same some.ok, size_was c.vector_in.result c.unwrap-vector.result 4 c.vector_in.ensures.size c.unwrap-vector.ensures, subst (λ (v : VectorIn). v.count ≤ node_limit) same some.few)

pub returns : goal.returns
returns c =
    let some = some_nodes c.args.table.now c.requires in
    let same = ok_same some.vector c.unwrap-vector.result (sym some.vector_is ∙ sym c.vector_in.ensures.read ∙ c.unwrap-vector.ensures) in
    some.is ∙ ap nodes_in same ∙ read_ok (nodes_in c.unwrap-vector.result) (subst (λ (v : VectorIn). IsOk (nodes_in v)) same some.ok)
