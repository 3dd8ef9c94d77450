use Rattle.std.proofs.Common.{◌≡◌, drop}
use Rattle.repo_objects.specs.Lines.{enter_ids}
use Rattle.repo_objects.proofs.queue.Queue.enter_ids.Given as goal

abbrev pub invariant-loop-id : goal.invariant-loop-id
invariant-loop-id l = enter_ids (drop l.id-index l.ids) l.self ≡ enter_ids l.ids l.fn.self
