use Rattle.std.proofs.Common.{◌≡◌, drop}
use Rattle.repo_objects.specs.Lines.{enter_rows}
use Rattle.repo_objects.proofs.queue.Queue.enter_rows.Given as goal

abbrev pub invariant-loop-at : goal.invariant-loop-at
invariant-loop-at l = enter_rows (drop l.at l.rows) l.self ≡ enter_rows l.rows l.fn.self
