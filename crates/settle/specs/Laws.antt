-- The law of a settling.
use Rattle.std.specs.Prelude.{ℕ, List}
use Rattle.object_store.specs.declared.events.Event.{Event}
use Rattle.store_api.specs.Callers.{Caller}
use Rattle.store_api.specs.Plays.{Stays}
use Rattle.store_api.specs.Telling.{IsTold, MadeGets}
use Rattle.settle.specs.declared.settle.Doubt.{Doubt}
use Rattle.settle.specs.Settling.{settle_program}
use Rattle.settle.specs.Telling.{SettleTells}

-- Whatever others do, each operation of a settling is polite, and its answer tells the journal; and
-- wherever it may find no memory, its client made gets alone.
pub record SettleLaw (by : Caller) : Type 0 where
  pub told : (branch : List ℕ) (d : Doubt)
      → IsTold by (settle_program branch d) (SettleTells by.number branch d)
  pub gets : (branch : List ℕ) (d : Doubt) (start journal : List Event)
      → MadeGets by.number start journal
      → Stays (MadeGets by.number start) by (settle_program branch d) journal
