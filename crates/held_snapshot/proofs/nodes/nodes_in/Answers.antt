use Rattle.std.proofs.Common.{◌≡◌, ℕ, ◌+◌, List, Some, Ok, Err, ap, sym, subst, ◌∙◌, arith}
use Rattle.std.specs.Prelude.{option_map}
use Rattle.std.proofs.lemmas.Result.{err_from_is_err_and}
use Rattle.flat_tables.specs.Rows.{each, follows}
use Rattle.snapshot_file.specs.declared.nodes.NodeRow.{NodeRow}
use Rattle.snapshot_file.specs.Nodes.{node_at}
use Rattle.snapshot_file.specs.Snapshots.{node_key, nodes_in}
use Rattle.held_manifest.proofs.Checked.{Checked, checks_begin, checks_more, checks_fault, checks_disorder, checks_end, read_ok}
use Rattle.held_snapshot.proofs.Walked.{found_row}
use Rattle.held_snapshot.proofs.nodes.nodes_in.Goals as goal

pub loop-at-init : goal.loop-at-init
loop-at-init c = let v = c.args.vector in checks_begin node_key 2 (each (node_at v)) v.count

pub returns-in_err-path : goal.returns-in_err-path
returns-in_err-path c =
    let v = c.args.vector in
    let inv = c.loop-at.invariant in
    let p = err_from_is_err_and c.from_residual.result c.from_residual.ensures.1 in
    let fault = c.in_err-path.field-0.0 in
    let is : each (node_at v) inv.front ≡ Err fault = ap (node_at v) inv.so_far.len ∙ c.in_err-path.ensures in
    rw (p.1, p.2) (sym (checks_fault node_key 2 (each (node_at v)) v.count _ c.loop-at.at fault inv (omega arith) is))

pub returns-then-not-text_follows : goal.returns-then-not-text_follows
returns-then-not-text_follows c =
    let v = c.args.vector in
    let inv = c.loop-at.invariant in
    let node = found_row (node_at v c.loop-at.at) (λ (row : NodeRow). row.path ≡ c.in_ok-path.path.now) c.in_ok-path.ensures in
    let is : each (node_at v) inv.front ≡ Ok node.0 = ap (node_at v) inv.so_far.len ∙ node.1 in
    let test = ap (follows (option_map (λ x. x.now) c.loop-at.last)) node.2 ∙ sym c.text_follows.ensures ∙ c.if-not-text_follows.true in
    sym (checks_disorder node_key 2 (each (node_at v)) v.count _ c.loop-at.at node.0 inv (omega arith) is test)

pub loop-at-preserved : goal.loop-at-preserved
loop-at-preserved c =
    let v = c.args.vector in
    let inv = c.loop-at.invariant in
    let node = found_row (node_at v c.loop-at.at) (λ (row : NodeRow). row.path ≡ c.in_ok-path.path.now) c.in_ok-path.ensures in
    let is : each (node_at v) inv.front ≡ Ok node.0 = ap (node_at v) inv.so_far.len ∙ node.1 in
    let test = ap (follows (option_map (λ x. x.now) c.loop-at.last)) node.2 ∙ sym c.text_follows.ensures ∙ c.if-not-text_follows.false in
    subst (λ (p : List ℕ). Checked node_key 2 (each (node_at v)) v.count (Some p) (c.loop-at.at + 1)) node.2
    (checks_more node_key 2 (each (node_at v)) v.count _ c.loop-at.at node.0 inv (omega arith) is test)

pub invariant_of-result : goal.invariant_of-result
invariant_of-result c =
    let v = c.args.vector in
    (checks_end node_key 2 (each (node_at v)) v.count _ c.loop-at.at c.loop-at.invariant (omega arith), c.requires.offsets, c.requires.few)

pub returns : goal.returns
returns c =
    let v = c.args.vector in
    sym (read_ok (nodes_in v) (checks_end node_key 2 (each (node_at v)) v.count _ c.loop-at.at c.loop-at.invariant (omega arith)))
