use Rattle.std.proofs.Common.{◌≡◌, Ok, ap, sym, ◌∙◌, arith}
use Rattle.flat_tables.specs.Rows.{each}
use Rattle.file_fields.specs.Fields.{id_key}
use Rattle.txn_file.specs.Logs.{id_at, ids_in}
use Rattle.txn_file.proofs.Ids.{id_is}
use Rattle.held_manifest.proofs.Checked.{checks_begin, checks_more, checks_disorder, checks_end, read_ok, tested}
use Rattle.held_log.proofs.ids.ids_in.Goals as goal

pub loop-at-init : goal.loop-at-init
loop-at-init c = let v = c.args.vector in checks_begin id_key c.args.slot (each (id_at v)) v.count

pub returns-then-not-id_follows : goal.returns-then-not-id_follows
returns-then-not-id_follows c =
    let v = c.args.vector in
    let inv = c.loop-at.invariant in
    let id = c.id8-id.result in
    let is : each (id_at v) inv.front ≡ Ok id = ap (id_at v) inv.so_far.len ∙ id_is v c.loop-at.at id (c.id8-id.ensures ∙ c.item.ensures.item) in
    let test = tested id_key c.loop-at.last _ _ (id_key id) c.as_ref.ensures.value c.id_follows.ensures in
    sym (checks_disorder id_key c.args.slot (each (id_at v)) v.count _ c.loop-at.at id inv (omega arith) is (test ∙ c.if-not-id_follows.true))

pub loop-at-preserved : goal.loop-at-preserved
loop-at-preserved c =
    let v = c.args.vector in
    let inv = c.loop-at.invariant in
    let id = c.id8-id.result in
    let is : each (id_at v) inv.front ≡ Ok id = ap (id_at v) inv.so_far.len ∙ id_is v c.loop-at.at id (c.id8-id.ensures ∙ c.item.ensures.item) in
    let test = tested id_key c.loop-at.last _ _ (id_key id) c.as_ref.ensures.value c.id_follows.ensures in
    checks_more id_key c.args.slot (each (id_at v)) v.count _ c.loop-at.at id inv (omega arith) is (test ∙ c.if-not-id_follows.false)

pub invariant_of-result : goal.invariant_of-result
invariant_of-result c =
    let v = c.args.vector in
    (checks_end id_key c.args.slot (each (id_at v)) v.count _ c.loop-at.at c.loop-at.invariant (omega arith), c.requires)

pub returns : goal.returns
returns c =
    let v = c.args.vector in
    sym (read_ok (ids_in c.args.slot v) (checks_end id_key c.args.slot (each (id_at v)) v.count _ c.loop-at.at c.loop-at.invariant (omega arith)))
