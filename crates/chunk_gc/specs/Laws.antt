-- Exact collection, as a law (own).
use Rattle.std.specs.Prelude.{ℕ, List, ◌++◌}
use Rattle.object_store.specs.declared.events.Op.{Op}
use Rattle.object_store.specs.declared.events.Event.{Event}
use Rattle.store_api.specs.Journal.{Each, IsPolite}
use Rattle.store_api.specs.Callers.{Caller, IsOther, Waits}
use Rattle.store_api.specs.Plays.{PlayKeeps, PlayLeads}
use Rattle.chunk_gc.specs.declared.standing.Collected.{Collected}
use Rattle.chunk_gc.specs.Plays.{collect_play}
use Rattle.chunk_gc.specs.Exact.{IsOwed, CollectTells}

-- Whatever others do from `start` on: each operation to come is polite, and one that a collection
-- may make, removals in order; the outcome has removed exactly what is doomed, or has its cause;
-- and both are said so later, too.
pub record CollectsExactly (by : Caller) (cutoff : ℕ) (start : List Event) : Type 0 where
  pub polite : PlayKeeps (λ journal client op. IsPolite journal op) by (collect_play cutoff) start
  pub owed : PlayKeeps (IsOwed cutoff start) by (collect_play cutoff) start
  pub leads : PlayLeads (CollectTells cutoff by.number start) by (collect_play cutoff) start
  pub stays : (journal more : List Event) (op : Op)
      → Each (IsOther by) journal more → IsOwed cutoff start journal by.number op
      → IsOwed cutoff start (journal ++ more) by.number op
  pub kept : (outcome : Collected) (old new : List Event)
      → Waits by old new → CollectTells cutoff by.number start outcome old
      → CollectTells cutoff by.number start outcome new

abbrev pub CollectLaw : Type 0
CollectLaw = (by : Caller) (cutoff : ℕ) (start : List Event) → CollectsExactly by cutoff start
