use Rattle.std.proofs.Common.{◌≡◌, Ok, Err, ap, sym, ◌∙◌, arith}
use Rattle.std.proofs.lemmas.Result.{err_from_is_err_and}
use Rattle.flat_tables.specs.Rows.{each}
use Rattle.snapshot_file.specs.Props.{prop_key}
use Rattle.snapshot_file.specs.Snapshots.{property_at}
use Rattle.held_manifest.proofs.Checked.{checks_begin, checks_more, checks_fault, checks_disorder, checks_end}
use Rattle.held_snapshot.proofs.props.check_properties.Goals as goal

pub loop-at-init : goal.loop-at-init
loop-at-init c = let v = c.args.vector.now in checks_begin prop_key 5 (each (property_at v)) v.count

pub returns-in_err-name : goal.returns-in_err-name
returns-in_err-name c =
    let v = c.args.vector.now in
    let inv = c.loop-at.invariant in
    let p = err_from_is_err_and c.from_residual.result c.from_residual.ensures.1 in
    let fault = c.in_err-name.field-0.0 in
    let is : each (property_at v) inv.front ≡ Err fault = ap (property_at v) inv.so_far.len ∙ c.in_err-name.ensures in
    rw (p.1, p.2) (checks_fault prop_key 5 (each (property_at v)) v.count _ c.loop-at.at fault inv (omega arith) is)

pub returns-then-not-text_follows : goal.returns-then-not-text_follows
returns-then-not-text_follows c =
    let v = c.args.vector.now in
    let inv = c.loop-at.invariant in
    let is : each (property_at v) inv.front ≡ Ok _ = ap (property_at v) inv.so_far.len ∙ c.in_ok-name.ensures in
    checks_disorder prop_key 5 (each (property_at v)) v.count _ c.loop-at.at _ inv (omega arith) is (sym c.text_follows.ensures ∙ c.if-not-text_follows.true)

pub loop-at-preserved : goal.loop-at-preserved
loop-at-preserved c =
    let v = c.args.vector.now in
    let inv = c.loop-at.invariant in
    let is : each (property_at v) inv.front ≡ Ok _ = ap (property_at v) inv.so_far.len ∙ c.in_ok-name.ensures in
    checks_more prop_key 5 (each (property_at v)) v.count _ c.loop-at.at _ inv (omega arith) is (sym c.text_follows.ensures ∙ c.if-not-text_follows.false)

pub returns : goal.returns
returns c =
    let v = c.args.vector.now in
    checks_end prop_key 5 (each (property_at v)) v.count _ c.loop-at.at c.loop-at.invariant (omega arith)
