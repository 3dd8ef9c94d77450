use Rattle.std.proofs.Common.{sym, arith}
use Rattle.std.proofs.lemmas.Result.{err_from_is_err_and}
use Rattle.snapshot_file.specs.Nodes.{name_at, names_in}
use Rattle.held_manifest.proofs.Checked.{read_ok}
use Rattle.held_snapshot.proofs.Walked.{walk_begin, walk_more, walk_fault, walk_end}
use Rattle.held_snapshot.proofs.names.names_in.Goals as goal

pub loop-at-init : goal.loop-at-init
loop-at-init c = let v = c.args.vector in walk_begin (name_at v) v.count

pub returns-in_err-_name : goal.returns-in_err-_name
returns-in_err-_name c =
    let v = c.args.vector in
    let p = err_from_is_err_and c.from_residual.result c.from_residual.ensures.1 in
    rw (p.1, p.2) (sym (walk_fault (name_at v) v.count c.loop-at.at c.in_err-_name.field-0.0 c.loop-at.invariant (omega arith) c.in_err-_name.ensures))

pub loop-at-preserved : goal.loop-at-preserved
loop-at-preserved c =
    let v = c.args.vector in
    walk_more (name_at v) v.count c.loop-at.at _ c.loop-at.invariant (omega arith) c.in_ok-_name.ensures

pub invariant_of-result : goal.invariant_of-result
invariant_of-result c =
    let v = c.args.vector in
    (walk_end (name_at v) v.count c.loop-at.at c.loop-at.invariant (omega arith), c.requires)

pub returns : goal.returns
returns c =
    let v = c.args.vector in
    sym (read_ok (names_in v) (walk_end (name_at v) v.count c.loop-at.at c.loop-at.invariant (omega arith)))
