use Rattle.std.proofs.Common.{◌≡◌, ◌<◌, ℕ, List, map, length}
use Rattle.play_tasks.specs.Workers.{worker_rest}
use Rattle.play_tasks.specs.Tasks.{HasEndedAt}
use Rattle.play_run.specs.Order.{turns_of}
use Rattle.play_run.specs.inside.Going.{Went}
use Rattle.play_run.proofs.run.run_to_ends.Given as goal

abbrev pub invariant-loop-t : goal.invariant-loop-t
invariant-loop-t g l = ((counts : List ℕ) × (length counts ≡ l.t) × Went (turns_of 0 counts) (g.S.Viewed.view l.fn.store) (g.S.Viewed.view l.store) (map worker_rest l.fn.workers) (map worker_rest l.workers)) × ((k : ℕ) → k < l.t → HasEndedAt k (map worker_rest l.workers))
