use Rattle.std.proofs.Common.{[], ◌∷◌, ◌++◌, Ok, Err, Some, refl, ap, sym, ◌∙◌, arith, lit≤}
use Rattle.std.proofs.lemmas.Result.{err_from_is_err_and}
use Rattle.ice_ids.specs.declared.Id8.{Id8}
use Rattle.std.specs.Prelude.{option_map}
use Rattle.flat_tables.specs.Rows.{follows, in_order}
use Rattle.flat_tables.proofs.Loop.{begins, pushed}
use Rattle.file_fields.specs.Fields.{id_key}
use Rattle.manifest_file.specs.Manifests.{array_key, array_behind, arrays_in}
use Rattle.manifest_file.proofs.Behind.{behind_is, refs_more}
use Rattle.held_manifest.proofs.Checked.{checks_fault, checks_disorder, checks_end, more_read, read_ok, tested}
use Rattle.held_manifest.proofs.arrays.arrays_in.Goals as goal

pub loop-at-init : goal.loop-at-init
loop-at-init c = let v = c.args.vector in record { checked = record { front = []; so_far = begins (in_order array_key 1 (array_behind v)) v.count; last_is = refl }; count = refl; few = lit≤ tt }

pub returns-in_err-array : goal.returns-in_err-array
returns-in_err-array c =
    let v = c.args.vector in
    let inv = c.loop-at.invariant in
    let front = inv.checked.front in
    let p = err_from_is_err_and c.from_residual.result c.from_residual.ensures.1 in
    let fault = c.in_err-array.field-0.0 in
    let is = behind_is v front c.loop-at.at c.loop-at.before (Err fault) inv.checked.so_far.len inv.count (sym c.in_err-array.ensures.read) in
    rw (p.1, p.2) (sym (checks_fault array_key 1 (array_behind v) v.count _ c.loop-at.at fault inv.checked (omega arith) is))

pub returns-then-not-id_follows : goal.returns-then-not-id_follows
returns-then-not-id_follows c =
    let v = c.args.vector in
    let inv = c.loop-at.invariant in
    let front = inv.checked.front in
    let array = c.in_ok-array.array in
    let is = behind_is v front c.loop-at.at c.loop-at.before (Ok array) inv.checked.so_far.len inv.count (sym c.in_ok-array.ensures.read) in
    let test = tested id_key c.loop-at.last _ _ (id_key c.id.result) c.as_ref.ensures.value c.id_follows.ensures in
    let after = ap (λ (id : Id8). follows (option_map id_key c.loop-at.last) (id_key id)) (sym c.id.ensures) ∙ test ∙ c.if-not-id_follows.true in
    sym (checks_disorder array_key 1 (array_behind v) v.count _ c.loop-at.at array inv.checked (omega arith) is after)

pub loop-at-preserved : goal.loop-at-preserved
loop-at-preserved c =
    let v = c.args.vector in
    let inv = c.loop-at.invariant in
    let front = inv.checked.front in
    let array = c.in_ok-array.array in
    let is = behind_is v front c.loop-at.at c.loop-at.before (Ok array) inv.checked.so_far.len inv.count (sym c.in_ok-array.ensures.read) in
    let test = tested id_key c.loop-at.last _ _ (id_key c.id.result) c.as_ref.ensures.value c.id_follows.ensures in
    let after = ap (λ (id : Id8). follows (option_map id_key c.loop-at.last) (id_key id)) (sym c.id.ensures) ∙ test ∙ c.if-not-id_follows.false in
    let more = refs_more front array in
    record {
      checked = record {
        front = front ++ array ∷ [];
        so_far = more_read array_key 1 (array_behind v) v.count _ c.loop-at.at array inv.checked (omega arith) is after;
        last_is = pushed array_key front array ∙ ap (λ (id : Id8). Some (id_key id)) (sym c.id-in-loop-at.ensures);
      };
      count = omega (arith, more, c.len-before.ensures, inv.count);
      few = omega (arith, c.len-before.ensures, c.in_ok-array.ensures.few);
    }

pub invariant_of-result : goal.invariant_of-result
invariant_of-result c =
    let v = c.args.vector in
    (checks_end array_key 1 (array_behind v) v.count _ c.loop-at.at c.loop-at.invariant.checked (omega arith), c.requires)

pub returns : goal.returns
returns c =
    let v = c.args.vector in
    sym (read_ok (arrays_in v) (checks_end array_key 1 (array_behind v) v.count _ c.loop-at.at c.loop-at.invariant.checked (omega arith)))
