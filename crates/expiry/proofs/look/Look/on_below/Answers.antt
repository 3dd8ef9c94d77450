use Rattle.expiry.proofs.StepsLook.{below-awaits, below-refused, below-went, state-falls, state-over}
use Rattle.expiry.proofs.look.Look.on_below.Goals as goal

pub after_below-requires-clause-left : goal.after_below-requires-clause-left
after_below-requires-clause-left c = below-awaits _ _ _ _ c.args.reply c.requires.awaited

pub returns-in-Ok-clause-took : goal.returns-in-Ok-clause-took
returns-in-Ok-clause-took c = below-went c.args.walk.left c.args.self.now.terms.cutoff c.args.walk.last c.args.walk.next c.args.reply c.in-Ok.seen c.requires.awaited c.in-Ok.ensures.told _ _ c.after_below.ensures.lands c.after_below.ensures.calm

pub returns-in-Err-clause-took : goal.returns-in-Err-clause-took
returns-in-Err-clause-took c = below-refused c.args.walk.left c.args.self.now.terms.cutoff c.args.walk.last c.args.walk.next c.args.reply c.in-Err.why c.requires.awaited c.in-Err.ensures.told c.in-Err.ensures.outright _ (state-over _ _ _ c.requires.ended)

pub returns-in-Err-clause-falls : goal.returns-in-Err-clause-falls
returns-in-Err-clause-falls c = state-falls c.args.self.now.state c.args.walk.left c.requires.ended (below-awaits _ _ _ _ c.args.reply c.requires.awaited)
