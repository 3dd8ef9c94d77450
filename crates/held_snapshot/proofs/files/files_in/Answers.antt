use Rattle.std.proofs.Common.{◌≡◌, Ok, ap, sym, ◌∙◌, arith}
use Rattle.ice_ids.specs.declared.Id12.{Id12}
use Rattle.flat_tables.specs.Rows.{each}
use Rattle.snapshot_file.specs.Snapshots.{file_key, info_of, info_at, files_in}
use Rattle.snapshot_file.proofs.Infos.{info_is}
use Rattle.held_manifest.proofs.Checked.{checks_begin, checks_more, checks_disorder, checks_end, read_ok, tested}
use Rattle.held_snapshot.proofs.files.files_in.Goals as goal

pub loop-at-init : goal.loop-at-init
loop-at-init c = let v = c.args.vector in checks_begin file_key 6 (each (info_at v)) v.count

pub info_of-file-requires : goal.info_of-file-requires
info_of-file-requires c = c.item.ensures.len ∙ c.requires

pub returns-then-not-file_follows : goal.returns-then-not-file_follows
returns-then-not-file_follows c =
    let v = c.args.vector in
    let inv = c.loop-at.invariant in
    let file = c.info_of-file.result in
    let is : each (info_at v) inv.front ≡ Ok file = ap (info_at v) inv.so_far.len ∙ info_is v c.loop-at.at file (c.info_of-file.ensures ∙ ap info_of c.item.ensures.item) in
    let test = tested (λ (id : Id12). id.0) c.loop-at.last _ _ (file_key file) c.as_ref.ensures.value c.file_follows.ensures in
    sym (checks_disorder file_key 6 (each (info_at v)) v.count _ c.loop-at.at file inv (omega arith) is (test ∙ c.if-not-file_follows.true))

pub loop-at-preserved : goal.loop-at-preserved
loop-at-preserved c =
    let v = c.args.vector in
    let inv = c.loop-at.invariant in
    let file = c.info_of-file.result in
    let is : each (info_at v) inv.front ≡ Ok file = ap (info_at v) inv.so_far.len ∙ info_is v c.loop-at.at file (c.info_of-file.ensures ∙ ap info_of c.item.ensures.item) in
    let test = tested (λ (id : Id12). id.0) c.loop-at.last _ _ (file_key file) c.as_ref.ensures.value c.file_follows.ensures in
    checks_more file_key 6 (each (info_at v)) v.count _ c.loop-at.at file inv (omega arith) is (test ∙ c.if-not-file_follows.false)

pub invariant_of-result : goal.invariant_of-result
invariant_of-result c =
    let v = c.args.vector in
    (checks_end file_key 6 (each (info_at v)) v.count _ c.loop-at.at c.loop-at.invariant (omega arith), c.requires)

pub returns : goal.returns
returns c =
    let v = c.args.vector in
    sym (read_ok (files_in v) (checks_end file_key 6 (each (info_at v)) v.count _ c.loop-at.at c.loop-at.invariant (omega arith)))
