use Rattle.play_collect.proofs.Telling.{task-well}
use Rattle.play_collect.proofs.laws.collect_task_law.Goals as goal

pub returns : goal.returns
returns c = task-well c.collect_law.ensures
