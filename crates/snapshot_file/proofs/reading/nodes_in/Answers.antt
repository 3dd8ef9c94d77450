use Rattle.std.proofs.Common.{inr, ◌∙◌, rules, arith}
use Rattle.std.proofs.lemmas.Result.{err_from_is_err_and}
use Rattle.flat_tables.specs.Rows.{each, in_order}
use Rattle.flat_tables.proofs.Loop.{ordered_goes_on, ordered_disordered, ordered_faulty, all_read}
use Rattle.snapshot_file.specs.Nodes.{node_at}
use Rattle.snapshot_file.specs.Snapshots.{node_key}
use Rattle.file_fields.proofs.LoopLaws.{tested_last}
use Rattle.snapshot_file.proofs.reading.nodes_in.Goals as goal

pub returns-in_err-node : goal.returns-in_err-node
returns-in_err-node c =
    let v = c.args.vector.now in
    let p = err_from_is_err_and c.from_residual.result c.from_residual.ensures.1 in
    rw (p.1, p.2) (ordered_faulty node_key 2 (node_at v) v.count c.loop-at.nodes.items c.loop-at.at c.in_err-node.field-0.0 c.loop-at.invariant (omega arith) c.in_err-node.ensures)

pub returns-then-not-node_follows : goal.returns-then-not-node_follows
returns-then-not-node_follows c =
    let v = c.args.vector.now in
    let node = c.in_ok-node.node in
    let test = tested_last node_key c.loop-at.nodes.items _ _ (node_key node) (search rules) c.node_follows.ensures in
    inr (ordered_disordered node_key 2 (node_at v) v.count c.loop-at.nodes.items c.loop-at.at node c.loop-at.invariant (omega arith) c.in_ok-node.ensures (test ∙ c.if-not-node_follows.true))

pub loop-at-preserved : goal.loop-at-preserved
loop-at-preserved c =
    let v = c.args.vector.now in
    let node = c.in_ok-node.node in
    let test = tested_last node_key c.loop-at.nodes.items _ _ (node_key node) (search rules) c.node_follows.ensures in
    rw c.in_ok-push.ensures.items (ordered_goes_on node_key 2 (node_at v) v.count c.loop-at.nodes.items c.loop-at.at node c.loop-at.invariant (omega arith) c.in_ok-node.ensures (test ∙ c.if-not-node_follows.false))

pub returns : goal.returns
returns c =
    let v = c.args.vector.now in
    rw c.from_vec.ensures (all_read (in_order node_key 2 (each (node_at v))) v.count c.loop-at.nodes.items c.loop-at.at c.loop-at.invariant (omega arith))
