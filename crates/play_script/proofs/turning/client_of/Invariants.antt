use Rattle.std.proofs.Common.{◌≡◌, ◌+◌, drop}
use Rattle.play_script.specs.Places.{client_from}
use Rattle.play_script.proofs.turning.client_of.Given as goal

abbrev pub invariant-loop-task : goal.invariant-loop-task
invariant-loop-task l = record {
  counted : l.client ≡ l.task-index + 1;
  left : client_from l.client (drop l.task-index l.tasks) l.name ≡ client_from 1 l.tasks l.name;
}
