use Rattle.rebase.proofs.Rebases.{state-over, state-walk-left, state-walk-refused, state-walk-went}
use Rattle.rebase.proofs.machine.Rebase.on_snapshot.Goals as goal

pub on_loaded-requires-clause-left : goal.on_loaded-requires-clause-left
on_loaded-requires-clause-left c = state-walk-left c.args.self.now.policy c.args.self.now.session c.args.walk c.args.reply c.requires.awaited

pub returns-in-Ok-clause-took : goal.returns-in-Ok-clause-took
returns-in-Ok-clause-took c = state-walk-went c.args.self.now.policy c.args.self.now.session c.args.walk c.args.reply c.in-Ok.loaded c.requires.awaited c.in-Ok.ensures.told _ _ c.on_loaded.ensures.lands c.on_loaded.ensures.faultless

pub returns-in-Err-clause-took : goal.returns-in-Err-clause-took
returns-in-Err-clause-took c = state-walk-refused c.args.self.now.policy c.args.self.now.session c.args.walk c.args.reply c.in-Err.why c.requires.awaited c.in-Err.ensures.told c.in-Err.ensures.outright _ (state-over c.args.self.now.policy c.args.self.now.session c.args.self.now.state c.requires.ended)
