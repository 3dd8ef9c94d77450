use Rattle.std.proofs.Common.{inr, ◌∙◌, rules, arith}
use Rattle.std.proofs.lemmas.Result.{err_from_is_err_and}
use Rattle.flat_tables.specs.Rows.{each, in_order}
use Rattle.flat_tables.proofs.Loop.{ordered_goes_on, ordered_disordered, ordered_faulty, all_read}
use Rattle.txn_file.specs.Logs.{array_key, array_at}
use Rattle.file_fields.proofs.LoopLaws.{tested_last}
use Rattle.txn_file.proofs.reading.arrays_in.Goals as goal

pub returns-in_err-array : goal.returns-in_err-array
returns-in_err-array c =
    let v = c.args.vector.now in
    let p = err_from_is_err_and c.from_residual.result c.from_residual.ensures.1 in
    rw (p.1, p.2) (ordered_faulty array_key 7 (array_at v) v.count c.loop-at.arrays.items c.loop-at.at c.in_err-array.field-0.0 c.loop-at.invariant (omega arith) c.in_err-array.ensures)

pub returns-then-not-array_follows : goal.returns-then-not-array_follows
returns-then-not-array_follows c =
    let v = c.args.vector.now in
    let array = c.in_ok-array.array in
    let test = tested_last array_key c.loop-at.arrays.items _ _ (array_key array) (search rules) c.array_follows.ensures in
    inr (ordered_disordered array_key 7 (array_at v) v.count c.loop-at.arrays.items c.loop-at.at array c.loop-at.invariant (omega arith) c.in_ok-array.ensures (test ∙ c.if-not-array_follows.true))

pub loop-at-preserved : goal.loop-at-preserved
loop-at-preserved c =
    let v = c.args.vector.now in
    let array = c.in_ok-array.array in
    let test = tested_last array_key c.loop-at.arrays.items _ _ (array_key array) (search rules) c.array_follows.ensures in
    rw c.in_ok-push.ensures.items (ordered_goes_on array_key 7 (array_at v) v.count c.loop-at.arrays.items c.loop-at.at array c.loop-at.invariant (omega arith) c.in_ok-array.ensures (test ∙ c.if-not-array_follows.false))

pub returns : goal.returns
returns c =
    let v = c.args.vector.now in
    rw c.from_vec.ensures (all_read (in_order array_key 7 (each (array_at v))) v.count c.loop-at.arrays.items c.loop-at.at c.loop-at.invariant (omega arith))
