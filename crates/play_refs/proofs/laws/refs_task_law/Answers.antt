use Rattle.play_refs.proofs.Playing.{task-well}
use Rattle.play_refs.proofs.laws.refs_task_law.Goals as goal

pub returns : goal.returns
returns c = λ by body start. task-well by (c.refs_law.ensures by) body start
