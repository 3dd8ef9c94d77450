use Rattle.rebase.proofs.Rebases.{state-snapshot, state-log}
use Rattle.rebase.proofs.machine.RebaseMachine.request.Goals as goal

pub returns-in-Snapshot : goal.returns-in-Snapshot
returns-in-Snapshot c = state-snapshot c.args.self.now.policy c.args.self.now.session c.args.self.now.state c.in-Snapshot.walk c.in-Snapshot.is c.requires

pub returns-in-Log : goal.returns-in-Log
returns-in-Log c = rw c.id.ensures (state-log c.args.self.now.policy c.args.self.now.session c.args.self.now.state c.in-Log.solving c.file.result.now c.in-Log.is c.file.ensures.value c.requires)
