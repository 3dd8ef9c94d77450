use Rattle.std.proofs.Common.{◌≡◌, ◌≤◌, ◌++◌, map, length, vec_len, vec_capacity}
use Rattle.store_api.specs.Plays.{Ended}
use Rattle.play_outcome.specs.declared.outcome.Outcome.{Outcome}
use Rattle.play_tasks.specs.Workers.{worker_rest}
use Rattle.play_run.proofs.workers.take_outcomes.Given as goal

abbrev pub invariant-loop-worker : goal.invariant-loop-worker
invariant-loop-worker l =
    (map (λ (o : Outcome). Ended o) l.outcomes.items ≡ map worker_rest l.yielded)
    × (l.yielded ++ l.worker-iterator.rest.items ≡ l.fn.workers.items)
    × (vec_len l.outcomes ≡ length l.yielded)
    × (length l.fn.workers.items ≤ vec_capacity l.outcomes)
