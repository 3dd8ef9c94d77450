use Rattle.play_check.proofs.Telling.{task-well}
use Rattle.play_check.proofs.laws.check_task_law.Goals as goal

pub returns : goal.returns
returns c = task-well c.check_law.ensures c.failure_law.ensures
