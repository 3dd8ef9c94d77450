use Rattle.play_tasks.proofs.Phases.{phase-not-over}
use Rattle.play_tasks.proofs.session_worker.SessionWorker.into_outcome.Goals as goal

pub unreachable-requires : goal.unreachable-requires
unreachable-requires c = phase-not-over c.args.self.task c.args.self.phase _ c.in-Playing.is c.args.self.works c.requires
