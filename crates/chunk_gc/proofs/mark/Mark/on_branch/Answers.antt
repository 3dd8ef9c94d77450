use Rattle.chunk_gc.proofs.Answering.{ref-tells}
use Rattle.repo_read.proofs.Hearing.{refused, went}
use Rattle.chunk_gc.proofs.mark.Mark.on_branch.Goals as goal

pub returns-in-Ok-clause-took : goal.returns-in-Ok-clause-took
returns-in-Ok-clause-took c = went _ _ _ (ref-tells c.args.key.now) c.args.reply c.in-Ok.id c.in-Ok.ensures.told _ _ c.after_branch.ensures.lands c.after_branch.ensures.calm

pub returns-in-Err-clause-took : goal.returns-in-Err-clause-took
returns-in-Err-clause-took c = refused _ _ _ (ref-tells c.args.key.now) c.args.reply c.in-Err.why c.requires.fits c.in-Err.ensures.told c.in-Err.ensures.outright _ (rw c.requires.ended tt)
