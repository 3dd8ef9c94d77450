use Rattle.chunk_gc.proofs.Answering.{snapshot-tells}
use Rattle.repo_read.proofs.Hearing.{refused, went}
use Rattle.chunk_gc.proofs.mark.Mark.on_snapshot.Goals as goal

pub returns-in-Ok-clause-took : goal.returns-in-Ok-clause-took
returns-in-Ok-clause-took c = went _ _ _ (snapshot-tells c.args.self.now.passes c.args.id) c.args.reply c.in-Ok.loaded c.in-Ok.ensures.told _ _ c.after_got.ensures.lands c.after_got.ensures.calm

pub returns-in-Err-clause-took : goal.returns-in-Err-clause-took
returns-in-Err-clause-took c = refused _ _ _ (snapshot-tells c.args.self.now.passes c.args.id) c.args.reply c.in-Err.why c.requires.fits c.in-Err.ensures.told c.in-Err.ensures.outright _ (rw c.requires.ended tt)
