use Rattle.std.proofs.lemmas.Result.{err_from_is_err_and}
use Rattle.repo_read.proofs.Told.{ref-refused, ref-went}
use Rattle.settle.proofs.Steps.{deep-faultless, state-over}
use Rattle.settle.proofs.Reading.{from_head}
use Rattle.settle.proofs.settle.Settle.on_branch.Goals as goal

pub returns-in_err-read-clause-took : goal.returns-in_err-read-clause-took
returns-in_err-read-clause-took c =
    let p = err_from_is_err_and c.from_residual.result c.from_residual.ensures.1 in
    rw (p.1, p.2) (ref-refused c.args.branch.now c.args.reply (from_head c.args.self.now.doubt) c.requires.awaited c.in_err-read.field-0.0 c.in_err-read.ensures.told c.in_err-read.ensures.outright _ (state-over _ _ c.requires.ended))

pub returns-clause-took : goal.returns-clause-took
returns-clause-took c = ref-went c.args.branch.now c.args.reply (from_head c.args.self.now.doubt) c.requires.awaited c.in_ok-read.read c.in_ok-read.ensures.told _ _ c.onto.ensures.lands (deep-faultless _ c.onto.ensures.refused)
