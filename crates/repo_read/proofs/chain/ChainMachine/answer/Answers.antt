use Rattle.std.proofs.Common.{sym, ◌∙◌}
use Rattle.std.proofs.lemmas.Result.{err_from_is_err_and}
use Rattle.repo_read.proofs.Walking.{walk-over, walk-falls, walk-refused, walk-more, walk-went}
use Rattle.repo_read.proofs.chain.ChainMachine.answer.Goals as goal

pub returns-in_err-loaded-clause-took : goal.returns-in_err-loaded-clause-took
returns-in_err-loaded-clause-took c =
    let p = err_from_is_err_and c.from_residual.result c.from_residual.ensures.1 in
    rw (p.1, p.2) (walk-refused c.args.self.now.left c.args.self.now.seen c.args.self.now.next c.in-Some.id c.args.reply c.in_err-loaded.field-0.0 (sym c.take.ensures.value ∙ c.in-Some.is) c.requires c.in_err-loaded.ensures.told c.in_err-loaded.ensures.outright _ (walk-over _ _ _ c.take.ensures.after))

pub returns-in_err-loaded-clause-falls : goal.returns-in_err-loaded-clause-falls
returns-in_err-loaded-clause-falls c = walk-falls c.args.self.now.left c.args.self.now.seen c.args.self.now.next _ c.args.reply c.take.ensures.after c.requires

pub on_snapshot-requires-clause-left : goal.on_snapshot-requires-clause-left
on_snapshot-requires-clause-left c = (walk-more c.args.self.now.left c.args.self.now.seen c.args.self.now.next c.in-Some.id c.args.reply (sym c.take.ensures.value ∙ c.in-Some.is) c.requires).0

pub returns-clause-took : goal.returns-clause-took
returns-clause-took c = walk-went c.args.self.now.left c.args.self.now.seen c.args.self.now.next c.in-Some.id c.args.reply c.in_ok-loaded.loaded (sym c.take.ensures.value ∙ c.in-Some.is) c.requires c.in_ok-loaded.ensures.told _ _ c.on_snapshot.ensures.lands c.on_snapshot.ensures.faultless
