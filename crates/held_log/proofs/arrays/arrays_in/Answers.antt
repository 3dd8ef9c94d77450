use Rattle.std.proofs.Common.{◌≡◌, ◌+◌, Ok, Err, Some, ap, sym, subst, ◌∙◌, arith}
use Rattle.std.specs.Prelude.{option_map}
use Rattle.std.proofs.lemmas.Result.{err_from_is_err_and}
use Rattle.ice_ids.specs.declared.Id8.{Id8}
use Rattle.flat_tables.specs.Rows.{each, follows}
use Rattle.file_fields.specs.Fields.{id_key}
use Rattle.txn_file.specs.Logs.{array_key, array_at, arrays_in}
use Rattle.held_manifest.proofs.Checked.{Checked, checks_begin, checks_more, checks_fault, checks_disorder, checks_end, read_ok, tested}
use Rattle.held_log.proofs.arrays.arrays_in.Goals as goal

pub loop-at-init : goal.loop-at-init
loop-at-init c = let v = c.args.vector in checks_begin array_key 7 (each (array_at v)) v.count

pub returns-in_err-array : goal.returns-in_err-array
returns-in_err-array c =
    let v = c.args.vector in
    let inv = c.loop-at.invariant in
    let p = err_from_is_err_and c.from_residual.result c.from_residual.ensures.1 in
    let fault = c.in_err-array.field-0.0 in
    let is : each (array_at v) inv.front ≡ Err fault = ap (array_at v) inv.so_far.len ∙ sym c.in_err-array.ensures in
    rw (p.1, p.2) (sym (checks_fault array_key 7 (each (array_at v)) v.count _ c.loop-at.at fault inv (omega arith) is))

pub returns-then-not-id_follows : goal.returns-then-not-id_follows
returns-then-not-id_follows c =
    let v = c.args.vector in
    let inv = c.loop-at.invariant in
    let array = c.in_ok-array.array in
    let is : each (array_at v) inv.front ≡ Ok array = ap (array_at v) inv.so_far.len ∙ sym c.in_ok-array.ensures in
    let test = tested id_key c.loop-at.last _ _ (id_key c.id.result) c.as_ref.ensures.value c.id_follows.ensures in
    let after = ap (λ (id : Id8). follows (option_map id_key c.loop-at.last) (id_key id)) (sym c.id.ensures) ∙ test ∙ c.if-not-id_follows.true in
    sym (checks_disorder array_key 7 (each (array_at v)) v.count _ c.loop-at.at array inv (omega arith) is after)

pub loop-at-preserved : goal.loop-at-preserved
loop-at-preserved c =
    let v = c.args.vector in
    let inv = c.loop-at.invariant in
    let array = c.in_ok-array.array in
    let is : each (array_at v) inv.front ≡ Ok array = ap (array_at v) inv.so_far.len ∙ sym c.in_ok-array.ensures in
    let test = tested id_key c.loop-at.last _ _ (id_key c.id.result) c.as_ref.ensures.value c.id_follows.ensures in
    let after = ap (λ (id : Id8). follows (option_map id_key c.loop-at.last) (id_key id)) (sym c.id.ensures) ∙ test ∙ c.if-not-id_follows.false in
    subst (λ (id : Id8). Checked array_key 7 (each (array_at v)) v.count (Some (id_key id)) (c.loop-at.at + 1)) (sym c.id-in-loop-at.ensures)
    (checks_more array_key 7 (each (array_at v)) v.count _ c.loop-at.at array inv (omega arith) is after)

pub invariant_of-result : goal.invariant_of-result
invariant_of-result c =
    let v = c.args.vector in
    (checks_end array_key 7 (each (array_at v)) v.count _ c.loop-at.at c.loop-at.invariant (omega arith), c.requires)

pub returns : goal.returns
returns c =
    let v = c.args.vector in
    sym (read_ok (arrays_in v) (checks_end array_key 7 (each (array_at v)) v.count _ c.loop-at.at c.loop-at.invariant (omega arith)))
