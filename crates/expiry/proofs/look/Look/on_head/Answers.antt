use Rattle.expiry.proofs.StepsHeard.{snapshot-tells}
use Rattle.repo_read.proofs.Hearing.{refused, went}
use Rattle.expiry.proofs.StepsLook.{state-over}
use Rattle.expiry.proofs.look.Look.on_head.Goals as goal

pub returns-in-Ok-clause-took : goal.returns-in-Ok-clause-took
returns-in-Ok-clause-took c = went _ _ _ (snapshot-tells c.args.named.id) c.args.reply c.in-Ok.seen c.in-Ok.ensures.told _ _ c.after_head.ensures.lands c.after_head.ensures.calm

pub returns-in-Err-clause-took : goal.returns-in-Err-clause-took
returns-in-Err-clause-took c = refused _ _ _ (snapshot-tells c.args.named.id) c.args.reply c.in-Err.why c.requires.fits c.in-Err.ensures.told c.in-Err.ensures.outright _ (state-over _ _ _ c.requires.ended)
