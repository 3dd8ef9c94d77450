-- Exact expiry, as a law (own).
use Rattle.std.specs.Prelude.{List, ◌++◌}
use Rattle.object_store.specs.declared.events.Op.{Op}
use Rattle.object_store.specs.declared.events.Event.{Event}
use Rattle.store_api.specs.Journal.{Each, IsPolite}
use Rattle.store_api.specs.Callers.{Caller, IsOther}
use Rattle.store_api.specs.Plays.{PlayKeeps, PlayLeads}
use Rattle.expiry.specs.declared.terms.Terms.{Terms}
use Rattle.expiry.specs.declared.standing.Expired.{Expired}
use Rattle.expiry.specs.Plays.{expire_play}
use Rattle.expiry.specs.Telling.{ExpireTells}
use Rattle.expiry.specs.Owing.{IsOwed}
use Rattle.expiry.specs.Changes.{ChangesTold}

-- Whatever others do from `start` on: each operation to come is polite, and owed; the outcome tells
-- what became of each ref, and where it was refused, its cause; whatever its end, no change goes
-- untold; and all of it is said so later, too.
pub record ExpiresExactly (by : Caller) (t : Terms) (start : List Event) : Type 0 where
  pub polite : PlayKeeps (λ journal client op. IsPolite journal op) by (expire_play t) start
  pub owed : PlayKeeps (IsOwed t start) by (expire_play t) start
  pub leads : PlayLeads (ExpireTells t by.number start) by (expire_play t) start
  pub changes : PlayLeads (ChangesTold by.number start) by (expire_play t) start
  pub stays : (journal more : List Event) (op : Op) → Each (IsOther by) journal more
      → IsOwed t start journal by.number op → IsOwed t start (journal ++ more) by.number op
  pub kept : (outcome : Expired) (journal more : List Event)
      → Each (IsOther by) journal more → ExpireTells t by.number start outcome journal
      → ExpireTells t by.number start outcome (journal ++ more)
  pub changes_kept : (outcome : Expired) (journal more : List Event)
      → Each (IsOther by) journal more → ChangesTold by.number start outcome journal
      → ChangesTold by.number start outcome (journal ++ more)

abbrev pub ExpireLaw : Type 0
ExpireLaw = (by : Caller) (t : Terms) (start : List Event) → ExpiresExactly by t start
