use Rattle.std.proofs.Common.{inr, ◌∙◌, rules, arith}
use Rattle.std.proofs.lemmas.Result.{err_from_is_err_and}
use Rattle.flat_tables.specs.Rows.{each, in_order}
use Rattle.flat_tables.proofs.Loop.{ordered_goes_on, ordered_disordered, ordered_faulty, all_read}
use Rattle.snapshot_file.specs.Snapshots.{property_at}
use Rattle.snapshot_file.specs.Props.{prop_key}
use Rattle.file_fields.proofs.LoopLaws.{tested_last}
use Rattle.snapshot_file.proofs.PropsRead.{in_vector}
use Rattle.snapshot_file.proofs.property_reading.properties_in.Goals as goal

pub returns-in_err-row : goal.returns-in_err-row
returns-in_err-row c =
    let v = c.args.vector.now in
    let p = err_from_is_err_and c.from_residual.result c.from_residual.ensures.1 in
    rw (p.1, p.2) (ordered_faulty prop_key 5 (property_at v) v.count c.loop-at.rows.items c.loop-at.at c.in_err-row.field-0.0 c.loop-at.invariant (omega arith) c.in_err-row.ensures)

pub returns-then-not-property_follows : goal.returns-then-not-property_follows
returns-then-not-property_follows c =
    let v = c.args.vector.now in
    let row = c.in_ok-row.row in
    let test = tested_last prop_key c.loop-at.rows.items _ _ (prop_key row) (search rules) c.property_follows.ensures in
    inr (ordered_disordered prop_key 5 (property_at v) v.count c.loop-at.rows.items c.loop-at.at row c.loop-at.invariant (omega arith) c.in_ok-row.ensures (test ∙ c.if-not-property_follows.true))

pub loop-at-preserved : goal.loop-at-preserved
loop-at-preserved c =
    let v = c.args.vector.now in
    let row = c.in_ok-row.row in
    let test = tested_last prop_key c.loop-at.rows.items _ _ (prop_key row) (search rules) c.property_follows.ensures in
    rw c.in_ok-push.ensures.items (ordered_goes_on prop_key 5 (property_at v) v.count c.loop-at.rows.items c.loop-at.at row c.loop-at.invariant (omega arith) c.in_ok-row.ensures (test ∙ c.if-not-property_follows.false))

pub from_rows-requires : goal.from_rows-requires
from_rows-requires c =
    let v = c.args.vector.now in
    in_vector v c.loop-at.rows.items c.requires.few (all_read (in_order prop_key 5 (each (property_at v))) v.count c.loop-at.rows.items c.loop-at.at c.loop-at.invariant (omega arith))

pub returns : goal.returns
returns c =
    let v = c.args.vector.now in
    rw c.from_rows.ensures (all_read (in_order prop_key 5 (each (property_at v))) v.count c.loop-at.rows.items c.loop-at.at c.loop-at.invariant (omega arith))
