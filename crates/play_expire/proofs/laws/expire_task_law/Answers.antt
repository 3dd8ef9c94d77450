use Rattle.play_expire.proofs.Telling.{task-well}
use Rattle.play_expire.proofs.laws.expire_task_law.Goals as goal

pub returns : goal.returns
returns c = task-well c.expire_law.ensures
