use Rattle.std.proofs.Common.{◌≡◌, map, take}
use Rattle.top_call.proofs.telling.names_of.Given as goal

abbrev pub invariant-loop-task : goal.invariant-loop-task
invariant-loop-task l = map (λ n. n.now) l.names.items ≡ map (λ t. t.name) (take l.task-index l.tasks)
