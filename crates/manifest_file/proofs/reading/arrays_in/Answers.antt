use Rattle.std.proofs.Common.{◌≡◌, ◌∙◌, Ok, Err, inr, rules, arith, refl, ap, length}
use Rattle.std.proofs.lemmas.Result.{err_from_is_err_and}
use Rattle.flat_tables.specs.declared.fault.FileFault.TheVariants.{Order}
use Rattle.flat_tables.specs.Rows.{in_order}
use Rattle.flat_tables.proofs.Loop.{goes_on, faulty, faults, in_order_ok, in_order_cases, not_in_order, all_read}
use Rattle.file_fields.proofs.LoopLaws.{tested_last}
use Rattle.manifest_file.specs.Manifests.{array_key, array_behind}
use Rattle.manifest_file.proofs.Behind.{behind_is, behind_cases, refs_more}
use Rattle.manifest_file.proofs.reading.arrays_in.Goals as goal

pub returns-in_err-array : goal.returns-in_err-array
returns-in_err-array c =
    let v = c.args.vector.now in
    let front = c.loop-at.arrays.items in
    let inv = c.loop-at.invariant in
    let p = err_from_is_err_and c.from_residual.result c.from_residual.ensures.1 in
    let fault = c.in_err-array.field-0.0 in
    let cases = behind_cases v front c.loop-at.at c.loop-at.before fault inv.so_far.len inv.count c.in_err-array.ensures.read in
    rw (p.1, p.2) (faulty (in_order array_key 1 (array_behind v)) v.count front c.loop-at.at fault inv.so_far (omega arith) (in_order_cases array_key 1 (array_behind v) front fault cases))

pub returns-then-not-array_follows : goal.returns-then-not-array_follows
returns-then-not-array_follows c =
    let v = c.args.vector.now in
    let front = c.loop-at.arrays.items in
    let inv = c.loop-at.invariant in
    let array = c.in_ok-array.array in
    let is = behind_is v front c.loop-at.at c.loop-at.before (Ok array) inv.so_far.len inv.count c.in_ok-array.ensures.read in
    let test = tested_last array_key front _ _ (array_key array) (search rules) c.array_follows.ensures in
    let e : in_order array_key 1 (array_behind v) front ≡ Err (Order 1 c.loop-at.at) = not_in_order array_key 1 (array_behind v) front array is (test ∙ c.if-not-array_follows.true) ∙ rw inv.so_far.len refl in
    inr (faults (in_order array_key 1 (array_behind v)) v.count front c.loop-at.at (Order 1 c.loop-at.at) inv.so_far (omega arith) e)

pub loop-at-preserved : goal.loop-at-preserved
loop-at-preserved c =
    let v = c.args.vector.now in
    let front = c.loop-at.arrays.items in
    let inv = c.loop-at.invariant in
    let array = c.in_ok-array.array in
    let is = behind_is v front c.loop-at.at c.loop-at.before (Ok array) inv.so_far.len inv.count c.in_ok-array.ensures.read in
    let test = tested_last array_key front _ _ (array_key array) (search rules) c.array_follows.ensures in
    let len : length c.as_slice.result.now ≡ length array.refs = ap length c.as_slice.ensures in
    let more = refs_more front array in
    record {
      so_far = rw c.in_ok-push.ensures.items (goes_on (in_order array_key 1 (array_behind v)) v.count front c.loop-at.at array inv.so_far (omega arith) (in_order_ok array_key 1 (array_behind v) front array is (test ∙ c.if-not-array_follows.false)));
      count = rw c.in_ok-push.ensures.items (omega (arith, more, len, inv.count));
      few = omega (arith, len, c.in_ok-array.ensures.few);
    }

pub returns : goal.returns
returns c =
    let v = c.args.vector.now in
    rw c.from_vec.ensures (all_read (in_order array_key 1 (array_behind v)) v.count c.loop-at.arrays.items c.loop-at.at c.loop-at.invariant.so_far (omega arith))
