use Rattle.std.proofs.Common.{inr, ◌∙◌, ap, rules, arith}
use Rattle.flat_tables.specs.Rows.{each, in_order}
use Rattle.flat_tables.proofs.Loop.{ordered_goes_on, ordered_disordered, all_read}
use Rattle.snapshot_file.specs.Snapshots.{file_key, info_of, info_at}
use Rattle.file_fields.proofs.LoopLaws.{tested_last}
use Rattle.file_fields.proofs.WasRead.{rows_ascend}
use Rattle.snapshot_file.proofs.Infos.{info_is}
use Rattle.snapshot_file.proofs.reading.files_in.Goals as goal

pub returns-then-not-file_follows-clause-value : goal.returns-then-not-file_follows-clause-value
returns-then-not-file_follows-clause-value c =
    let v = c.args.vector.now in
    let file = c.info_of-file.result in
    let is = info_is v c.loop-at.at file (c.info_of-file.ensures ∙ ap info_of c.item.ensures.item) in
    let test = tested_last file_key c.loop-at.files.items _ _ (file_key file) (search rules) c.file_follows.ensures in
    inr (ordered_disordered file_key 6 (info_at v) v.count c.loop-at.files.items c.loop-at.at file c.loop-at.invariant (omega arith) is (test ∙ c.if-not-file_follows.true))

pub loop-at-preserved : goal.loop-at-preserved
loop-at-preserved c =
    let v = c.args.vector.now in
    let file = c.info_of-file.result in
    let is = info_is v c.loop-at.at file (c.info_of-file.ensures ∙ ap info_of c.item.ensures.item) in
    let test = tested_last file_key c.loop-at.files.items _ _ (file_key file) (search rules) c.file_follows.ensures in
    rw c.in_ok-push.ensures.items (ordered_goes_on file_key 6 (info_at v) v.count c.loop-at.files.items c.loop-at.at file c.loop-at.invariant (omega arith) is (test ∙ c.if-not-file_follows.false))

pub returns-clause-value : goal.returns-clause-value
returns-clause-value c =
    let v = c.args.vector.now in
    rw c.from_vec.ensures (all_read (in_order file_key 6 (each (info_at v))) v.count c.loop-at.files.items c.loop-at.at c.loop-at.invariant (omega arith))

pub returns-clause-ascend : goal.returns-clause-ascend
returns-clause-ascend c =
    let v = c.args.vector.now in
    let read = all_read (in_order file_key 6 (each (info_at v))) v.count c.loop-at.files.items c.loop-at.at c.loop-at.invariant (omega arith) in
    rw c.from_vec.ensures (rows_ascend file_key 6 (each (info_at v)) v.count c.loop-at.files.items read)
