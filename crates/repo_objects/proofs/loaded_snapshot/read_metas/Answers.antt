use Rattle.std.proofs.Common.{arith}
use Rattle.std.proofs.lemmas.Result.{err_from_is_err_and}
use Rattle.repo_objects.proofs.Metas.{one_more, stopped, all_read}
use Rattle.repo_objects.proofs.loaded_snapshot.read_metas.Goals as goal

pub returns-in_err-row_meta : goal.returns-in_err-row_meta
returns-in_err-row_meta c =
    let why = stopped c.args.rows.now c.loop-at.at c.loop-at.metas.items c.at.result c.in_err-row_meta.field-0.0 c.at.ensures c.loop-at.invariant c.in_err-row_meta.ensures in
    let err = err_from_is_err_and c.from_residual-in_err-row_meta.result c.from_residual-in_err-row_meta.ensures.1 in
    rw (err.1, err.2) why

pub loop-at-preserved : goal.loop-at-preserved
loop-at-preserved c = one_more c.args.rows.now c.loop-at.at c.loop-at.metas.items c.push.new.self.items c.at.result c.in_ok-row_meta.field-0 c.at.ensures c.loop-at.invariant c.in_ok-row_meta.ensures c.in_ok-push.ensures.items

pub returns : goal.returns
returns c = rw c.from_vec.ensures (all_read c.args.rows.now c.loop-at.at c.loop-at.metas.items (omega (arith, c.len-at-end.ensures.count)) c.loop-at.invariant)
