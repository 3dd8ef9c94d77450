use Rattle.std.proofs.Common.{inr, ◌∙◌, rules, arith}
use Rattle.flat_tables.specs.Rows.{each, in_order}
use Rattle.flat_tables.proofs.Loop.{ordered_goes_on, ordered_disordered, all_read}
use Rattle.txn_file.specs.Logs.{id_at}
use Rattle.file_fields.specs.Fields.{id_key}
use Rattle.file_fields.proofs.LoopLaws.{tested_last}
use Rattle.txn_file.proofs.Ids.{id_is}
use Rattle.txn_file.proofs.reading.ids_in.Goals as goal

pub returns-then-not-id_follows : goal.returns-then-not-id_follows
returns-then-not-id_follows c =
    let v = c.args.vector.now in
    let id = c.id8-id.result in
    let is = id_is v c.loop-at.at id (c.id8-id.ensures ∙ c.item.ensures.item) in
    let test = tested_last id_key c.loop-at.ids.items _ _ (id_key id) (search rules) c.id_follows.ensures in
    inr (ordered_disordered id_key c.args.slot (id_at v) v.count c.loop-at.ids.items c.loop-at.at id c.loop-at.invariant (omega arith) is (test ∙ c.if-not-id_follows.true))

pub loop-at-preserved : goal.loop-at-preserved
loop-at-preserved c =
    let v = c.args.vector.now in
    let id = c.id8-id.result in
    let is = id_is v c.loop-at.at id (c.id8-id.ensures ∙ c.item.ensures.item) in
    let test = tested_last id_key c.loop-at.ids.items _ _ (id_key id) (search rules) c.id_follows.ensures in
    rw c.in_ok-push.ensures.items (ordered_goes_on id_key c.args.slot (id_at v) v.count c.loop-at.ids.items c.loop-at.at id c.loop-at.invariant (omega arith) is (test ∙ c.if-not-id_follows.false))

pub returns : goal.returns
returns c =
    let v = c.args.vector.now in
    rw c.from_vec.ensures (all_read (in_order id_key c.args.slot (each (id_at v))) v.count c.loop-at.ids.items c.loop-at.at c.loop-at.invariant (omega arith))
