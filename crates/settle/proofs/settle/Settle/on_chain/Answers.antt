use Rattle.std.proofs.Common.{ap, sym, ◌∙◌}
use Rattle.std.proofs.lemmas.Result.{err_from_is_err_and}
use Rattle.snapshot_file.specs.declared.snapshot.SnapshotFile.{SnapshotFile}
use Rattle.settle.proofs.Steps.{deep-faultless, state-over, state-falls, way-refused, way-awaits, way-went}
use Rattle.settle.proofs.settle.Settle.on_chain.Goals as goal

pub returns-in_err-loaded-clause-took : goal.returns-in_err-loaded-clause-took
returns-in_err-loaded-clause-took c =
    let p = err_from_is_err_and c.from_residual.result c.from_residual.ensures.1 in
    rw (p.1, p.2) (way-refused c.args.self.now.doubt c.args.way.head c.args.way.left c.args.way.next c.args.reply c.in_err-loaded.field-0.0 c.requires.awaited c.in_err-loaded.ensures.told c.in_err-loaded.ensures.outright _ (state-over _ _ c.requires.ended))

pub returns-in_err-loaded-clause-falls : goal.returns-in_err-loaded-clause-falls
returns-in_err-loaded-clause-falls c = state-falls c.args.self.now.doubt _ c.args.way c.args.reply c.requires.ended c.requires.awaited

pub on_parent-requires-clause-left : goal.on_parent-requires-clause-left
on_parent-requires-clause-left c = way-awaits c.args.self.now.doubt c.args.way.head c.args.way.left c.args.way.next c.args.reply c.requires.awaited

pub returns-clause-took : goal.returns-clause-took
returns-clause-took c =
    way-went c.args.self.now.doubt c.args.way.head c.args.way.left c.args.way.next c.args.reply c.in_ok-loaded.loaded _ c.requires.awaited c.in_ok-loaded.ensures.told (sym (c.parent.ensures ∙ ap (λ (f : SnapshotFile). f.parent) c.file.ensures.value)) _ _ c.on_parent.ensures.lands (deep-faultless _ c.on_parent.ensures.refused)
