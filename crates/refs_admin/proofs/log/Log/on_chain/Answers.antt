use Rattle.std.proofs.lemmas.Result.{err_from_is_err_and}
use Rattle.refs_admin.proofs.Walks.{state-over, state-falls, walk-refused, walk-awaits, walk-went}
use Rattle.refs_admin.proofs.log.Log.on_chain.Goals as goal

pub returns-in_err-loaded-clause-took : goal.returns-in_err-loaded-clause-took
returns-in_err-loaded-clause-took c =
    let p = err_from_is_err_and c.from_residual.result c.from_residual.ensures.1 in
    rw (p.1, p.2) (walk-refused c.args.walk.left c.args.walk.lines c.args.walk.next c.args.reply c.in_err-loaded.field-0.0 c.requires.awaited c.in_err-loaded.ensures.told c.in_err-loaded.ensures.outright _ (state-over _ c.requires.ended))

pub returns-in_err-loaded-clause-falls : goal.returns-in_err-loaded-clause-falls
returns-in_err-loaded-clause-falls c = state-falls _ c.args.walk c.args.reply c.requires.ended c.requires.awaited

pub on_snapshot-requires-clause-left : goal.on_snapshot-requires-clause-left
on_snapshot-requires-clause-left c = walk-awaits c.args.walk.left c.args.walk.lines c.args.walk.next c.args.reply c.requires.awaited

pub returns-clause-took : goal.returns-clause-took
returns-clause-took c = walk-went c.args.walk.left c.args.walk.lines c.args.walk.next c.args.reply c.in_ok-loaded.loaded c.requires.awaited c.in_ok-loaded.ensures.told _ _ c.on_snapshot.ensures.lands c.on_snapshot.ensures.faultless
