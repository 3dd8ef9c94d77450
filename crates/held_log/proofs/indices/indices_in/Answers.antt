use Rattle.std.proofs.Common.{◌≡◌, Ok, Err, ap, sym, ◌∙◌, arith}
use Rattle.std.proofs.lemmas.Result.{err_from_is_err_and}
use Rattle.flat_tables.specs.Rows.{each}
use Rattle.txn_file.specs.Logs.{index_at, indices_in}
use Rattle.file_fields.specs.Fields.{index_key}
use Rattle.held_manifest.proofs.Checked.{checks_begin, checks_more, checks_fault, checks_disorder, checks_end, read_ok, tested}
use Rattle.held_log.proofs.indices.indices_in.Goals as goal

pub loop-at-init : goal.loop-at-init
loop-at-init c = let v = c.args.vector in checks_begin index_key 1 (each (index_at v)) v.count

pub returns-in_err-index : goal.returns-in_err-index
returns-in_err-index c =
    let v = c.args.vector in
    let inv = c.loop-at.invariant in
    let p = err_from_is_err_and c.from_residual.result c.from_residual.ensures.1 in
    let fault = c.in_err-index.field-0.0 in
    let is : each (index_at v) inv.front ≡ Err fault = ap (index_at v) inv.so_far.len ∙ sym c.in_err-index.ensures in
    rw (p.1, p.2) (sym (checks_fault index_key 1 (each (index_at v)) v.count _ c.loop-at.at fault inv (omega arith) is))

pub returns-then-not-index_follows : goal.returns-then-not-index_follows
returns-then-not-index_follows c =
    let v = c.args.vector in
    let inv = c.loop-at.invariant in
    let index = c.in_ok-index.index in
    let is : each (index_at v) inv.front ≡ Ok index = ap (index_at v) inv.so_far.len ∙ sym c.in_ok-index.ensures in
    let test = tested index_key c.loop-at.last _ _ (index_key index) c.as_ref.ensures.value c.index_follows.ensures in
    sym (checks_disorder index_key 1 (each (index_at v)) v.count _ c.loop-at.at index inv (omega arith) is (test ∙ c.if-not-index_follows.true))

pub loop-at-preserved : goal.loop-at-preserved
loop-at-preserved c =
    let v = c.args.vector in
    let inv = c.loop-at.invariant in
    let index = c.in_ok-index.index in
    let is : each (index_at v) inv.front ≡ Ok index = ap (index_at v) inv.so_far.len ∙ sym c.in_ok-index.ensures in
    let test = tested index_key c.loop-at.last _ _ (index_key index) c.as_ref.ensures.value c.index_follows.ensures in
    checks_more index_key 1 (each (index_at v)) v.count _ c.loop-at.at index inv (omega arith) is (test ∙ c.if-not-index_follows.false)

pub invariant_of-result : goal.invariant_of-result
invariant_of-result c =
    let v = c.args.vector in
    (checks_end index_key 1 (each (index_at v)) v.count _ c.loop-at.at c.loop-at.invariant (omega arith), c.requires)

pub returns : goal.returns
returns c =
    let v = c.args.vector in
    sym (read_ok (indices_in v) (checks_end index_key 1 (each (index_at v)) v.count _ c.loop-at.at c.loop-at.invariant (omega arith)))
