use Rattle.std.proofs.Common.{inr, ◌∙◌, rules, arith}
use Rattle.std.proofs.lemmas.Result.{err_from_is_err_and}
use Rattle.flat_tables.specs.Rows.{each, in_order}
use Rattle.flat_tables.proofs.Loop.{ordered_goes_on, ordered_disordered, ordered_faulty, all_read}
use Rattle.txn_file.specs.Logs.{index_at}
use Rattle.file_fields.specs.Fields.{index_key}
use Rattle.file_fields.proofs.LoopLaws.{tested_last}
use Rattle.txn_file.proofs.reading.indices_in.Goals as goal

pub returns-in_err-index : goal.returns-in_err-index
returns-in_err-index c =
    let v = c.args.vector.now in
    let p = err_from_is_err_and c.from_residual.result c.from_residual.ensures.1 in
    rw (p.1, p.2) (ordered_faulty index_key 1 (index_at v) v.count c.loop-at.indices.items c.loop-at.at c.in_err-index.field-0.0 c.loop-at.invariant (omega arith) c.in_err-index.ensures)

pub returns-then-not-index_follows : goal.returns-then-not-index_follows
returns-then-not-index_follows c =
    let v = c.args.vector.now in
    let index = c.in_ok-index.index in
    let test = tested_last index_key c.loop-at.indices.items _ _ (index_key index) (search rules) c.index_follows.ensures in
    inr (ordered_disordered index_key 1 (index_at v) v.count c.loop-at.indices.items c.loop-at.at index c.loop-at.invariant (omega arith) c.in_ok-index.ensures (test ∙ c.if-not-index_follows.true))

pub loop-at-preserved : goal.loop-at-preserved
loop-at-preserved c =
    let v = c.args.vector.now in
    let index = c.in_ok-index.index in
    let test = tested_last index_key c.loop-at.indices.items _ _ (index_key index) (search rules) c.index_follows.ensures in
    rw c.in_ok-push.ensures.items (ordered_goes_on index_key 1 (index_at v) v.count c.loop-at.indices.items c.loop-at.at index c.loop-at.invariant (omega arith) c.in_ok-index.ensures (test ∙ c.if-not-index_follows.false))

pub returns : goal.returns
returns c =
    let v = c.args.vector.now in
    rw c.from_vec.ensures (all_read (in_order index_key 1 (each (index_at v))) v.count c.loop-at.indices.items c.loop-at.at c.loop-at.invariant (omega arith))
