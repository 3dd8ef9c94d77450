use Rattle.std.proofs.Common.{inr, ◌∙◌, rules, arith, length, ap, ◌≡◌}
use Rattle.std.proofs.lemmas.Result.{err_from_is_err_and}
use Rattle.flat_tables.specs.Rows.{each, in_order}
use Rattle.flat_tables.proofs.Loop.{ordered_goes_on, ordered_disordered, ordered_faulty, all_read}
use Rattle.file_fields.proofs.LoopLaws.{tested_last}
use Rattle.manifest_file.specs.Manifests.{ref_key, ref_at}
use Rattle.manifest_file.proofs.reading.refs_in.Goals as goal

pub returns-in_err-chunk-clause-read : goal.returns-in_err-chunk-clause-read
returns-in_err-chunk-clause-read c =
    let v = c.args.vector.now in
    let p = err_from_is_err_and c.from_residual.result c.from_residual.ensures.1 in
    rw (p.1, p.2) (ordered_faulty ref_key 1 (ref_at v) v.count c.loop-at.refs.items c.loop-at.at c.in_err-chunk.field-0.0 c.loop-at.invariant (omega arith) c.in_err-chunk.ensures)

pub returns-then-not-ref_follows-clause-read : goal.returns-then-not-ref_follows-clause-read
returns-then-not-ref_follows-clause-read c =
    let v = c.args.vector.now in
    let chunk = c.in_ok-chunk.chunk in
    let test = tested_last ref_key c.loop-at.refs.items _ _ (ref_key chunk) (search rules) c.ref_follows.ensures in
    inr (ordered_disordered ref_key 1 (ref_at v) v.count c.loop-at.refs.items c.loop-at.at chunk c.loop-at.invariant (omega arith) c.in_ok-chunk.ensures (test ∙ c.if-not-ref_follows.true))

pub loop-at-preserved : goal.loop-at-preserved
loop-at-preserved c =
    let v = c.args.vector.now in
    let chunk = c.in_ok-chunk.chunk in
    let test = tested_last ref_key c.loop-at.refs.items _ _ (ref_key chunk) (search rules) c.ref_follows.ensures in
    rw c.in_ok-push.ensures.items (ordered_goes_on ref_key 1 (ref_at v) v.count c.loop-at.refs.items c.loop-at.at chunk c.loop-at.invariant (omega arith) c.in_ok-chunk.ensures (test ∙ c.if-not-ref_follows.false))

pub returns-clause-read : goal.returns-clause-read
returns-clause-read c =
    let v = c.args.vector.now in
    rw c.from_vec.ensures (all_read (in_order ref_key 1 (each (ref_at v))) v.count c.loop-at.refs.items c.loop-at.at c.loop-at.invariant (omega arith))

pub returns-clause-count : goal.returns-clause-count
returns-clause-count c =
    let len : length c.from_vec.result ≡ length c.loop-at.refs.items = ap length c.from_vec.ensures in
    omega (arith, len, c.loop-at.invariant.len)
