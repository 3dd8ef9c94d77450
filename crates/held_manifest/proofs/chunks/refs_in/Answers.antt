use Rattle.std.proofs.Common.{◌≡◌, Ok, Err, ap, sym, ◌∙◌, arith}
use Rattle.std.proofs.lemmas.Result.{err_from_is_err_and}
use Rattle.flat_tables.specs.Rows.{each}
use Rattle.manifest_file.specs.Manifests.{ref_key, ref_at, refs_in}
use Rattle.held_manifest.proofs.Checked.{checks_begin, checks_more, checks_fault, checks_disorder, checks_end, read_ok, tested}
use Rattle.held_manifest.proofs.chunks.refs_in.Goals as goal

pub loop-at-init : goal.loop-at-init
loop-at-init c = let v = c.args.vector in checks_begin ref_key 1 (each (ref_at v)) v.count

pub returns-in_err-chunk : goal.returns-in_err-chunk
returns-in_err-chunk c =
    let v = c.args.vector in
    let inv = c.loop-at.invariant in
    let p = err_from_is_err_and c.from_residual.result c.from_residual.ensures.1 in
    let fault = c.in_err-chunk.field-0.0 in
    let is : each (ref_at v) inv.front ≡ Err fault = ap (ref_at v) inv.so_far.len ∙ sym c.in_err-chunk.ensures in
    rw (p.1, p.2) (sym (checks_fault ref_key 1 (each (ref_at v)) v.count _ c.loop-at.at fault inv (omega arith) is))

pub returns-then-not-ref_follows : goal.returns-then-not-ref_follows
returns-then-not-ref_follows c =
    let v = c.args.vector in
    let inv = c.loop-at.invariant in
    let chunk = c.in_ok-chunk.chunk in
    let is : each (ref_at v) inv.front ≡ Ok chunk = ap (ref_at v) inv.so_far.len ∙ sym c.in_ok-chunk.ensures in
    let test = tested ref_key c.loop-at.last _ _ (ref_key chunk) c.as_ref.ensures.value c.ref_follows.ensures in
    sym (checks_disorder ref_key 1 (each (ref_at v)) v.count _ c.loop-at.at chunk inv (omega arith) is (test ∙ c.if-not-ref_follows.true))

pub loop-at-preserved : goal.loop-at-preserved
loop-at-preserved c =
    let v = c.args.vector in
    let inv = c.loop-at.invariant in
    let chunk = c.in_ok-chunk.chunk in
    let is : each (ref_at v) inv.front ≡ Ok chunk = ap (ref_at v) inv.so_far.len ∙ sym c.in_ok-chunk.ensures in
    let test = tested ref_key c.loop-at.last _ _ (ref_key chunk) c.as_ref.ensures.value c.ref_follows.ensures in
    checks_more ref_key 1 (each (ref_at v)) v.count _ c.loop-at.at chunk inv (omega arith) is (test ∙ c.if-not-ref_follows.false)

pub invariant_of-result : goal.invariant_of-result
invariant_of-result c =
    let v = c.args.vector in
    (checks_end ref_key 1 (each (ref_at v)) v.count _ c.loop-at.at c.loop-at.invariant (omega arith), c.requires)

pub returns : goal.returns
returns c =
    let v = c.args.vector in
    sym (read_ok (refs_in v) (checks_end ref_key 1 (each (ref_at v)) v.count _ c.loop-at.at c.loop-at.invariant (omega arith)))
