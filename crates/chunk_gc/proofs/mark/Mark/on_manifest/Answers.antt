use Rattle.std.proofs.Common.{sym}
use Rattle.chunk_gc.proofs.Answering.{manifest-tells}
use Rattle.repo_read.proofs.Hearing.{refused, went}
use Rattle.chunk_gc.proofs.mark.Mark.on_manifest.Goals as goal

pub returns-in-Ok-clause-took : goal.returns-in-Ok-clause-took
returns-in-Ok-clause-took c = went _ _ _ (manifest-tells c.args.self.now.passes c.args.id) c.args.reply c.in-Ok.held (sym c.in-Ok.ensures.told) _ _ c.after_held.ensures.lands c.after_held.ensures.calm

pub returns-in-Err-clause-took : goal.returns-in-Err-clause-took
returns-in-Err-clause-took c = refused _ _ _ (manifest-tells c.args.self.now.passes c.args.id) c.args.reply c.in-Err.why c.requires.fits (λ n. sym c.in-Err.ensures.told) (λ n. c.in-Err.ensures.told) _ (rw c.requires.ended tt)
