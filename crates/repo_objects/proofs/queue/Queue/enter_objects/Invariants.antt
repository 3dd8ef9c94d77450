use Rattle.std.proofs.Common.{◌≡◌}
use Rattle.held_manifest.specs.Objects.{objects_of}
use Rattle.repo_objects.specs.Lines.{enter_ids}
use Rattle.repo_objects.proofs.queue.Queue.enter_objects.Given as goal

abbrev pub invariant-loop-id : goal.invariant-loop-id
invariant-loop-id l = enter_ids l.id-iterator l.self ≡ enter_ids (objects_of l.held) l.fn.self
