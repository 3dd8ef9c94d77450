use Rattle.std.proofs.Common.{◌≡◌, drop}
use Rattle.repo_objects.specs.Lines.{enter_refs}
use Rattle.repo_objects.proofs.queue.Queue.enter_refs.Given as goal

abbrev pub invariant-loop-at : goal.invariant-loop-at
invariant-loop-at l = enter_refs (drop l.at l.manifests) l.self ≡ enter_refs l.manifests l.fn.self
