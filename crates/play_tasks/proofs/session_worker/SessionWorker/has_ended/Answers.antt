use Rattle.play_tasks.proofs.Phases.{phase-goes}
use Rattle.play_tasks.proofs.session_worker.SessionWorker.has_ended.Goals as goal

pub returns-in-Playing-clause-live : goal.returns-in-Playing-clause-live
returns-in-Playing-clause-live c = λ e. phase-goes c.args.self.now.task c.args.self.now.phase _ c.in-Playing.is c.args.self.now.works
