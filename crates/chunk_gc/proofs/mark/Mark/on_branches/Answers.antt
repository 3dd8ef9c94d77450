use Rattle.std.proofs.Common.{sym}
use Rattle.object_store.specs.declared.keys.Part.TheVariants.{Branches}
use Rattle.chunk_gc.proofs.Answering.{first-tells}
use Rattle.repo_read.proofs.Hearing.{refused, went}
use Rattle.chunk_gc.proofs.mark.Mark.on_branches.Goals as goal

pub returns-in-Ok-clause-took : goal.returns-in-Ok-clause-took
returns-in-Ok-clause-took c = went _ _ _ (first-tells c.args.self.now.cutoff Branches) c.args.reply c.in-Ok.listed (sym c.in-Ok.ensures.told) _ _ (rw c.as_slice.ensures at c.after_branches.ensures.lands) c.after_branches.ensures.calm

pub returns-in-Err-clause-took : goal.returns-in-Err-clause-took
returns-in-Err-clause-took c = refused _ _ _ (first-tells c.args.self.now.cutoff Branches) c.args.reply c.in-Err.why c.requires.fits (λ n. sym c.in-Err.ensures.told) (λ n. c.in-Err.ensures.told) _ (rw c.requires.ended tt)
