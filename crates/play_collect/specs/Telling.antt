-- What the outcome of a task that collects says of the journal. (Own.)
use Rattle.std.specs.Prelude.{◌≡◌, ℕ, List}
use Rattle.object_store.specs.declared.events.Event.{Event}
use Rattle.chunk_gc.specs.declared.standing.Collected.{Collected}
use Rattle.chunk_gc.specs.Exact.{CollectTells}
use Rattle.play_outcome.specs.declared.outcome.Outcome.{Outcome}
use Rattle.play_collect.specs.Playing.{outcome_of}

-- It shows nothing, and its end is that of a collection: it counts the removals that were told as
-- done; where it ended well, exactly what is doomed was removed, or was absent at its removal; and
-- where it was refused, the last of the client's own operations has the cause.
pub record CollectedTells (line cutoff client : ℕ) (start : List Event) (outcome : Outcome)
    (journal : List Event) : Type 0 where
  pub collected : Collected
  pub is : outcome ≡ outcome_of line collected
  pub tells : CollectTells cutoff client start collected journal
