use Rattle.std.proofs.Common.{sym, arith}
use Rattle.std.proofs.lemmas.Result.{err_from_is_err_and}
use Rattle.snapshot_file.specs.Nodes.{manifest_at, manifests_in}
use Rattle.held_manifest.proofs.Checked.{read_ok}
use Rattle.held_snapshot.proofs.Walked.{walk_begin, walk_more, walk_fault, walk_end}
use Rattle.held_snapshot.proofs.manifests.manifests_in.Goals as goal

pub loop-at-init : goal.loop-at-init
loop-at-init c = let v = c.args.vector in walk_begin (manifest_at v) v.count

pub returns-in_err-_manifest : goal.returns-in_err-_manifest
returns-in_err-_manifest c =
    let v = c.args.vector in
    let p = err_from_is_err_and c.from_residual.result c.from_residual.ensures.1 in
    rw (p.1, p.2) (sym (walk_fault (manifest_at v) v.count c.loop-at.at c.in_err-_manifest.field-0.0 c.loop-at.invariant (omega arith) (sym c.in_err-_manifest.ensures)))

pub loop-at-preserved : goal.loop-at-preserved
loop-at-preserved c =
    let v = c.args.vector in
    walk_more (manifest_at v) v.count c.loop-at.at c.in_ok-_manifest._manifest c.loop-at.invariant (omega arith) (sym c.in_ok-_manifest.ensures)

pub invariant_of-result : goal.invariant_of-result
invariant_of-result c =
    let v = c.args.vector in
    (walk_end (manifest_at v) v.count c.loop-at.at c.loop-at.invariant (omega arith), c.requires)

pub returns : goal.returns
returns c =
    let v = c.args.vector in
    sym (read_ok (manifests_in v) (walk_end (manifest_at v) v.count c.loop-at.at c.loop-at.invariant (omega arith)))
